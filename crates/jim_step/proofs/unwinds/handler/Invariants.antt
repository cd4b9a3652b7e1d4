use Rattle.std.proofs.Common.{ℕ, ◌<◌}
use Rattle.step_rules.specs.Offers.{MayCatch}
use Rattle.jim_step.proofs.unwinds.handler.Given as goal

abbrev pub invariant-loop-one : goal.invariant-loop-one
invariant-loop-one l = (number : ℕ) → number < l.one-index → MayCatch l.linked l.catches l.index l.class number → ⊥
