use Rattle.std.proofs.Common.{◌≡◌, ℕ, false, get_or, take}
use Rattle.std.specs.List.{list_any}
use Rattle.call_side.specs.Crowds.{crowds}
use Rattle.call_side.proofs.crowd.crowded.Given as goal

abbrev pub invariant-loop-step : goal.invariant-loop-step
invariant-loop-step l = (k : ℕ) → get_or l.flags.items k false ≡ list_any (crowds l.steps k) (take l.step-index l.steps)
