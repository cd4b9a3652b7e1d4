use Rattle.link_calls.proofs.Marked.{AreMarkedTo}
use Rattle.link_calls.proofs.receivers.marks_of.Given as goal

abbrev pub invariant-loop-class : goal.invariant-loop-class
invariant-loop-class l = AreMarkedTo l.classes.world l.places l.class l.marks.items
