use Rattle.std.proofs.Common.{◌≡◌, ℕ, ◌<◌, Some, slice_get}
use Rattle.jim_step.specs.Sizes.{IsSmallMethod}
use Rattle.link_rules.specs.Linked.{LinkedMethod}
use Rattle.jim_step.proofs.sizes.are_small_methods.Given as goal

abbrev pub invariant-loop-method : goal.invariant-loop-method
invariant-loop-method l = (i : ℕ) (m : LinkedMethod) → i < l.method → slice_get l.linked.methods i ≡ Some m → IsSmallMethod m
