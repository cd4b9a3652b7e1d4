use Rattle.std.proofs.Common.{◌↔◌, List, ℕ, subst, sym}
use Rattle.lists.specs.Lists.{Has}
use Rattle.spds_solve.specs.declared.heads.Head.{Head}
use Rattle.spds_solve.specs.Posts.{Knows, post_of}
use Rattle.spds_solve.proofs.posts.Posts.at_store.Goals as goal

pub returns : goal.returns
returns c site =
    subst (λ (xs : List ℕ). Has xs site ↔ ((head : Head) × Knows c.args.self.now (post_of c.args.store head site))) (sym c.at.ensures)
    (c.requires.by_store c.args.store site)
