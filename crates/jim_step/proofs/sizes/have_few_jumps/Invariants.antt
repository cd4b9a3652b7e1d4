use Rattle.std.proofs.Common.{◌≡◌, ℕ, ◌<◌, Some, slice_get}
use Rattle.jim_step.specs.Sizes.{HasFewJumps}
use Rattle.link_rules.specs.declared.code.Code.{Code}
use Rattle.jim_step.proofs.sizes.have_few_jumps.Given as goal

abbrev pub invariant-loop-code : goal.invariant-loop-code
invariant-loop-code l = (i : ℕ) (code : Code) → i < l.code-index → slice_get l.codes i ≡ Some code → HasFewJumps code
