use Rattle.spds_solve.specs.Ends.{AreEndsBelow}
use Rattle.spds_solve.proofs.ends.Ends.of.Given as goal

abbrev pub invariant-loop-store : goal.invariant-loop-store
invariant-loop-store l = AreEndsBelow l.parts l.store l.ends.items
