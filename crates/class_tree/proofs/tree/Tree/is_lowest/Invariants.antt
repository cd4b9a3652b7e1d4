use Rattle.std.proofs.Common.{◌≡◌, ℕ, ◌<◌, Some, slice_get}
use Rattle.class_rules.specs.Rows.{Sub}
use Rattle.class_tree.proofs.tree.Tree.is_lowest.Given as goal

abbrev pub invariant-loop-other : goal.invariant-loop-other
invariant-loop-other l = (k b : ℕ) → k < l.other-index → slice_get l.reached k ≡ Some b → Sub l.self l.class b → Sub l.self b l.interface → b ≡ l.interface
