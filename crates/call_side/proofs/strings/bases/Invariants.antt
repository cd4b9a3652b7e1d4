use Rattle.std.proofs.Common.{[]}
use Rattle.call_side.specs.Bases.{AreStepsUpTo}
use Rattle.call_side.proofs.strings.bases.Given as goal

abbrev pub invariant-loop-target : goal.invariant-loop-target
invariant-loop-target l = AreStepsUpTo l.linked l.calls l.target [] l.steps.items
