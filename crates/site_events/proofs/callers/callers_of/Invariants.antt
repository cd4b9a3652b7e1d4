use Rattle.std.proofs.Common.{[], take}
use Rattle.link_indexes.specs.declared.method.Place.{Place}
use Rattle.site_events.proofs.Calling.{AreAdded}
use Rattle.site_events.proofs.callers.callers_of.Given as goal

abbrev pub invariant-loop-caller : goal.invariant-loop-caller
invariant-loop-caller l = AreAdded (λ (c : Place). c.method) [] (take l.caller-index l.caller-items) l.found.keys
