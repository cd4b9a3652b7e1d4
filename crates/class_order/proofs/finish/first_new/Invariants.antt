use Rattle.std.proofs.Common.{◌≡◌, ℕ, ◌<◌, ◌≤◌, ◌-◌, length, get_or, slice_get, Some}
use Rattle.class_order.specs.declared.finish.Stage.TheVariants.{New}
use Rattle.class_order.proofs.finish.first_new.Given as goal

abbrev pub invariant-loop-at : goal.invariant-loop-at
invariant-loop-at l = record {
  within : l.at ≤ length l.classes;
  begun : (j : ℕ) → l.from ≤ j → j < l.at → slice_get l.stages (get_or l.classes j 0) ≡ Some New → ⊥;
}

abbrev pub decreases-loop-at : goal.decreases-loop-at
decreases-loop-at l = length l.classes - l.at
