use Rattle.link_bodies.proofs.Again.{IsLeastOrNone, RepeatsBefore}
use Rattle.link_bodies.proofs.repeats.least_repeated.Given as goal

abbrev pub invariant-loop-place : goal.invariant-loop-place
invariant-loop-place l = IsLeastOrNone (RepeatsBefore l.labels l.place) l.least
