use Rattle.std.proofs.Common.{take}
use Rattle.site_events.proofs.Calling.{ArePut}
use Rattle.site_events.proofs.callers.put_under.Given as goal

abbrev pub invariant-loop-method : goal.invariant-loop-method
invariant-loop-method l = ArePut l.target (take l.method-index l.methods) l.initial.pairs.items l.pairs.items
