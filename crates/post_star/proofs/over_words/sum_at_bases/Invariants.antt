use Rattle.post_star.proofs.Gathers.{IsGathered}
use Rattle.post_star.proofs.over_words.sum_at_bases.Given as goal

abbrev pub invariant-loop-entry : goal.invariant-loop-entry
invariant-loop-entry g l = IsGathered g.W.Weight.domain l.sums l.node l.entries l.sum l.entry-index
