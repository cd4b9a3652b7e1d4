use Rattle.post_star.proofs.Takes.{AreEntriesTaken}
use Rattle.post_star.proofs.take.take_rules.Given as goal

abbrev pub invariant-loop-entry : goal.invariant-loop-entry
invariant-loop-entry g l = AreEntriesTaken g.W.Weight.domain l.table l.rules l.taken l.entries l.items.items l.entry-index
