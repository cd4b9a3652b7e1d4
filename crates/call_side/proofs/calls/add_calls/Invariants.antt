use Rattle.call_side.specs.Calls.{AreCallsUpTo}
use Rattle.call_side.proofs.calls.add_calls.Given as goal

abbrev pub invariant-loop-index : goal.invariant-loop-index
invariant-loop-index l = AreCallsUpTo l.linked l.method l.index l.places.items
