use Rattle.std.proofs.Common.{◌≡◌, ℕ, ◌<◌, Some, slice_get}
use Rattle.class_tree.specs.Indexed.{HasFieldNear}
use Rattle.class_tree.proofs.tree.Tree.first_near.Given as goal

abbrev pub invariant-loop-class : goal.invariant-loop-class
invariant-loop-class l = (k c : ℕ) → k < l.class-index → slice_get l.classes k ≡ Some c → HasFieldNear l.self c l.fields.key → ⊥
