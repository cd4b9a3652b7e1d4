use Rattle.link_bodies.specs.Places.{AreNamed, label_names}
use Rattle.link_bodies.proofs.places.FirstPlaces.of_labels.Given as goal

abbrev pub invariant-loop-place : goal.invariant-loop-place
invariant-loop-place l = AreNamed (label_names l.labels) l.place l.places.items
