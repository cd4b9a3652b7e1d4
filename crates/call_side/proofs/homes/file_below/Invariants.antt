use Rattle.std.proofs.Common.{take}
use Rattle.call_side.specs.Indexed.{IsFiledBy, below_key}
use Rattle.call_side.proofs.homes.file_below.Given as goal

abbrev pub invariant-loop-step : goal.invariant-loop-step
invariant-loop-step l = IsFiledBy below_key (take l.step-index l.steps) l.by_below
