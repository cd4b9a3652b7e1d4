use Rattle.std.proofs.Common.{length, map}
use Rattle.post_star.proofs.Sums.{IsSummed, FromParent}
use Rattle.post_star.proofs.reading.+reading_of.Given as goal

abbrev pub decreases-reading_of : goal.decreases-reading_of
decreases-reading_of g l = length l.word.now

abbrev pub invariant-loop-linked : goal.invariant-loop-linked
invariant-loop-linked g l = IsSummed g.W.Weight.domain (FromParent g.W.Weight.domain l.bases.steps.now l.bases.last l.table l.fn.entry l.rest) (map (λ x. x.parent) l.parents) l.linked-index l.sum
