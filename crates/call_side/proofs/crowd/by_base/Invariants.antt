use Rattle.std.proofs.Common.{◌≡◌, map, take}
use Rattle.call_side.specs.Crowds.{keyed_by_base}
use Rattle.call_side.proofs.crowd.by_base.Given as goal

abbrev pub invariant-loop-step : goal.invariant-loop-step
invariant-loop-step l = l.keyed.items ≡ map keyed_by_base (take l.step-index l.steps)
