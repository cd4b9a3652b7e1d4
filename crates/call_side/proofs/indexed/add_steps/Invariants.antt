use Rattle.std.proofs.Common.{take}
use Rattle.call_side.specs.Indexed.{AreFiled}
use Rattle.call_side.proofs.indexed.add_steps.Given as goal

abbrev pub invariant-loop-step : goal.invariant-loop-step
invariant-loop-step l = AreFiled (take l.step-index l.steps) l.by_base l.by_mark
