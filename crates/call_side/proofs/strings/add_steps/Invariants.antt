use Rattle.std.proofs.Common.{take}
use Rattle.call_side.specs.Bases.{AreStepsUpTo}
use Rattle.call_side.proofs.strings.add_steps.Given as goal

abbrev pub invariant-loop-caller : goal.invariant-loop-caller
invariant-loop-caller l = AreStepsUpTo l.linked l.calls l.target (take l.caller-index l.callers) l.steps.items
