use Rattle.std.proofs.Common.{take}
use Rattle.site_events.specs.Events.{AreAtPlaces}
use Rattle.track_tables.proofs.starts.at_places.Given as goal

abbrev pub invariant-loop-place : goal.invariant-loop-place
invariant-loop-place l = AreAtPlaces l.numbers (take l.place-index l.places) l.found.items
