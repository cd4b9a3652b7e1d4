use Rattle.std.proofs.Common.{take}
use Rattle.site_events.specs.Events.{AreAtPlaces}
use Rattle.site_events.proofs.events.Events.at_all.Given as goal

abbrev pub invariant-loop-place : goal.invariant-loop-place
invariant-loop-place l = AreAtPlaces l.self.uses.items (take l.place-index l.places) l.found.items
