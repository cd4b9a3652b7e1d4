use Rattle.site_events.proofs.Sharing.{AreBelowUpTo}
use Rattle.site_events.proofs.shared.classes_below.Given as goal

abbrev pub invariant-loop-class : goal.invariant-loop-class
invariant-loop-class l = AreBelowUpTo l.linked l.of l.class l.below.items
