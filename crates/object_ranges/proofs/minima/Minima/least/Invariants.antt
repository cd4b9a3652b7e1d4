use Rattle.std.proofs.Common.{ℕ, ◌+◌, ◌<◌, ◌≤◌, Option}
use Rattle.object_ranges.specs.Marks.{IsLeastOf, StandsIn, earlier}
use Rattle.object_ranges.proofs.minima.Minima.least.Given as goal

abbrev pub invariant-loop-low : goal.invariant-loop-low
invariant-loop-low l = record {
  within : l.high ≤ l.self-inside.count + l.self-inside.count;
  some : l.low < l.high → 1 ≤ l.low;
  told : (o : Option ℕ) → IsLeastOf (StandsIn l.self-inside.nodes.items l.low l.high) o → IsLeastOf (StandsIn l.self l.from l.to) (earlier l.least o);
}

abbrev pub decreases-loop-low : goal.decreases-loop-low
decreases-loop-low l = l.high
