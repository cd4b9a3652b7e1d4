use Rattle.std.proofs.Common.{take}
use Rattle.site_events.proofs.Calling.{AreAdded}
use Rattle.site_events.proofs.loud.add_all.Given as goal

abbrev pub invariant-loop-method : goal.invariant-loop-method
invariant-loop-method l = AreAdded (λ m. m) l.initial.found.keys (take l.method-index l.methods) l.found.keys
