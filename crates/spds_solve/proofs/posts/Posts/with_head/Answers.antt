use Rattle.std.proofs.Common.{◌↔◌, List, ℕ, subst, sym, ◌∙◌, ap}
use Rattle.lists.specs.Lists.{Has}
use Rattle.post_star.specs.Groups.{found_at}
use Rattle.spds_solve.specs.Posts.{Knows, post_of}
use Rattle.spds_solve.proofs.posts.Posts.with_head.Goals as goal

pub returns : goal.returns
returns c site =
    subst (λ (xs : List ℕ). Has xs site ↔ Knows c.args.self.now (post_of c.args.store c.args.head site)) (sym (c.at.ensures ∙ ap (found_at c.args.self.now.by_head) c.key_of.ensures))
    (c.requires.by_head c.args.store c.args.head site)
