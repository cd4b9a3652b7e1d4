use Rattle.site_events.specs.Passed.{IsPassingAt}
use Rattle.site_events.proofs.Joining.{IsPassedUpTo}
use Rattle.site_events.proofs.passed.passing_local.Given as goal

abbrev pub invariant-loop-number : goal.invariant-loop-number
invariant-loop-number l = IsPassingAt l.linked l.targets (IsPassedUpTo l.fn.receiver l.args l.x l.number) l.passing
