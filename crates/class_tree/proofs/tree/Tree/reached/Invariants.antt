use Rattle.std.proofs.Common.{◌≡◌, ℕ, ◌<◌, ◌≤◌, ◌-◌, Some, length, slice_get}
use Rattle.class_rules.specs.Rows.{Sub}
use Rattle.class_tree.proofs.tree.Tree.reached.Given as goal

abbrev pub invariant-loop-from : goal.invariant-loop-from
invariant-loop-from l = record {
  within : l.from ≤ length l.holders;
  before : (k b : ℕ) → k < l.from → slice_get l.holders k ≡ Some b → Sub l.self l.class b → ⊥;
}

abbrev pub decreases-loop-from : goal.decreases-loop-from
decreases-loop-from l = length l.holders - l.from
