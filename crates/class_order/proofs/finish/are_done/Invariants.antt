use Rattle.std.proofs.Common.{◌≡◌, ℕ, take, slice_get, Some, Contains}
use Rattle.class_order.specs.declared.finish.Stage.TheVariants.{Done}
use Rattle.class_order.proofs.finish.are_done.Given as goal

abbrev pub invariant-loop-class : goal.invariant-loop-class
invariant-loop-class l = (c : ℕ) → Contains (take l.class-index l.classes) c → slice_get l.stages c ≡ Some Done
