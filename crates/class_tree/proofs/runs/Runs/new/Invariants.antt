use Rattle.std.proofs.Common.{◌≡◌, ◌+◌, length}
use Rattle.class_tree.proofs.Running.{AreRunsTo}
use Rattle.class_tree.proofs.runs.Runs.new.Given as goal

abbrev pub invariant-loop-at : goal.invariant-loop-at
invariant-loop-at l = record {
  count : length l.tenants.items + l.at ≡ length l.order;
  are : AreRunsTo l.classes l.numbering.numbers.items l.tenants.items l.starts.items l.last l.start;
}

abbrev pub decreases-loop-at : goal.decreases-loop-at
decreases-loop-at l = l.at
