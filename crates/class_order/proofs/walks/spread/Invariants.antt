use Rattle.std.proofs.Common.{◌≤◌, ◌-◌, length}
use Rattle.class_order.specs.Tables.{IsWithin}
use Rattle.class_order.proofs.Visited.{IsSearched}
use Rattle.class_order.proofs.walks.spread.Given as goal

abbrev pub invariant-loop-class : goal.invariant-loop-class
invariant-loop-class l = record {
  searched : IsSearched l.steps l.fn.reached l.at l.reached;
  known : IsWithin (length l.steps) l.reached;
  within : l.at ≤ length l.reached;
}

abbrev pub decreases-loop-class : goal.decreases-loop-class
decreases-loop-class l = length l.steps - l.at
