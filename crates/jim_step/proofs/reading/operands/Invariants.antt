use Rattle.std.proofs.Common.{◌≡◌, Some, take}
use Rattle.jim_step.specs.Frames.{frame_of}
use Rattle.step_rules.specs.Slots.{operands_of}
use Rattle.jim_step.proofs.reading.operands.Given as goal

abbrev pub invariant-loop-arg : goal.invariant-loop-arg
invariant-loop-arg l = operands_of l.linked (frame_of l.frame) (take l.arg-index l.args) ≡ Some l.values.items
