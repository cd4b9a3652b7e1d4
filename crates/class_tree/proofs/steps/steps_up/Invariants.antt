use Rattle.std.proofs.Common.{◌≡◌, ℕ, ◌<◌, ◌⊎◌, ◌↔◌, length}
use Rattle.class_rules.specs.Rows.{HasInterface, HasParent}
use Rattle.class_order.specs.Tables.{Under}
use Rattle.class_tree.proofs.steps.steps_up.Given as goal

abbrev pub invariant-loop-class : goal.invariant-loop-class
invariant-loop-class l = record {
  len : length l.above ≡ length l.classes;
  steps : (a b : ℕ) → Under l.above b a ↔ (HasInterface l.implements a b ⊎ ((a < l.class) × HasParent l.classes a b));
}
