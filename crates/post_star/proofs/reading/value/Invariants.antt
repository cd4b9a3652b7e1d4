use Rattle.post_star.proofs.Sums.{IsSummed, AtNode}
use Rattle.post_star.proofs.reading.value.Given as goal

abbrev pub invariant-loop-entry : goal.invariant-loop-entry
invariant-loop-entry g l = IsSummed g.W.Weight.domain (AtNode g.W.Weight.domain l.bases.steps.now l.bases.last l.table l.node l.word) l.entries l.entry-index l.sum
