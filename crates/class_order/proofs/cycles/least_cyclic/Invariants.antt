use Rattle.std.proofs.Common.{length}
use Rattle.class_order.specs.Tables.{IsWithin}
use Rattle.class_order.proofs.LookedAt.{IsLooked}
use Rattle.class_order.proofs.cycles.least_cyclic.Given as goal

abbrev pub invariant-loop-at : goal.invariant-loop-at
invariant-loop-at l = record {
  looked : IsLooked l.above l.order l.at l.least l.met;
  known : IsWithin (length l.above) l.met;
}

abbrev pub decreases-loop-at : goal.decreases-loop-at
decreases-loop-at l = l.at
