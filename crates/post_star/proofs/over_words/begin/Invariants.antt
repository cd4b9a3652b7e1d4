use Rattle.post_star.proofs.Sweeping.{IsBegunTo}
use Rattle.post_star.proofs.over_words.begin.Given as goal

abbrev pub invariant-loop-entry : goal.invariant-loop-entry
invariant-loop-entry g l = IsBegunTo g.W.Weight.domain l.table l.node l.entries l.sums.table l.sums.items.items l.entry-index
