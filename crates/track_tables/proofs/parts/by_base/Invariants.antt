use Rattle.std.proofs.Common.{take}
use Rattle.call_side.specs.Indexed.{IsFiledBy, base_key}
use Rattle.track_tables.proofs.parts.by_base.Given as goal

abbrev pub invariant-loop-step : goal.invariant-loop-step
invariant-loop-step l = IsFiledBy base_key (take l.step-index l.steps) l.filed
