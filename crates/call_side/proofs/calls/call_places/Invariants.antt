use Rattle.call_side.specs.Calls.{AreCallsUpTo}
use Rattle.call_side.proofs.calls.call_places.Given as goal

abbrev pub invariant-loop-method : goal.invariant-loop-method
invariant-loop-method l = AreCallsUpTo l.linked l.method 0 l.places.items
