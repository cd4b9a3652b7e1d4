use Rattle.std.proofs.Common.{◌≡◌, ℕ, ◌<◌, Some, slice_get}
use Rattle.jim_ast.specs.declared.names.NameId.{NameId}
use Rattle.link_bodies.proofs.repeats.repeats_any.Given as goal

abbrev pub invariant-loop-place : goal.invariant-loop-place
invariant-loop-place l = (i j : ℕ) (name : NameId) → i < j → j < l.place → slice_get l.locals i ≡ Some name → slice_get l.locals j ≡ Some name → ⊥
