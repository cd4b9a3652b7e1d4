use Rattle.std.proofs.Common.{◌≡◌, true, take}
use Rattle.std.specs.Option.{is_some}
use Rattle.jim_step.specs.Frames.{frame_of}
use Rattle.step_rules.specs.Slots.{operands_of}
use Rattle.jim_step.proofs.reading.are_set.Given as goal

abbrev pub invariant-loop-arg : goal.invariant-loop-arg
invariant-loop-arg l = is_some (operands_of l.linked (frame_of l.frame) (take l.arg-index l.args)) ≡ true
