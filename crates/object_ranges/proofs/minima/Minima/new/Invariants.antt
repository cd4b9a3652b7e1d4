use Rattle.std.proofs.Common.{◌≡◌, ◌+◌, ◌≤◌, drop, length}
use Rattle.object_ranges.specs.Minima.{AreLesser}
use Rattle.object_ranges.proofs.minima.Minima.new.Given as goal

abbrev pub invariant-loop-at : goal.invariant-loop-at
invariant-loop-at l = record {
  within : l.at ≤ l.count;
  len : length l.nodes.items ≡ l.count + l.count;
  same : drop l.count l.nodes.items ≡ l.numbers;
  lesser : AreLesser l.at l.count l.nodes.items;
}

abbrev pub decreases-loop-at : goal.decreases-loop-at
decreases-loop-at l = l.at
