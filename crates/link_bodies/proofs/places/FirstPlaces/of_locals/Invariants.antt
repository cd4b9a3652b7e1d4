use Rattle.link_bodies.specs.Places.{AreNamed}
use Rattle.link_bodies.proofs.places.FirstPlaces.of_locals.Given as goal

abbrev pub invariant-loop-place : goal.invariant-loop-place
invariant-loop-place l = AreNamed l.locals l.place l.places.items
