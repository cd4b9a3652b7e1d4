use Rattle.std.proofs.Common.{List, subst}
use Rattle.lists.specs.Lists.{Has}
use Rattle.spds_solve.specs.declared.posts.Post.{Post}
use Rattle.spds_solve.proofs.Posting.{none, posted_none}
use Rattle.spds_solve.proofs.posts.Posts.new.Goals as goal

pub returns-clause-posted : goal.returns-clause-posted
returns-clause-posted c = posted_none _ c.new.ensures c.new-2.ensures c.new-3.ensures

pub returns-clause-none : goal.returns-clause-none
returns-clause-none c post knows = none (subst (λ (xs : List Post). Has xs post) c.new.ensures knows)
