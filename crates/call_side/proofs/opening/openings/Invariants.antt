use Rattle.call_side.specs.Openings.{AreOpened}
use Rattle.post_star.proofs.Loops.{EachBefore}
use Rattle.call_side.proofs.opening.openings.Given as goal

abbrev pub invariant-loop-entry : goal.invariant-loop-entry
invariant-loop-entry l = EachBefore (λ e. AreOpened l.table e l.openings.items) l.entry-items l.entry-index
