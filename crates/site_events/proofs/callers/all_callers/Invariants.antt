use Rattle.site_events.proofs.Calling.{ArePaired}
use Rattle.site_events.proofs.callers.all_callers.Given as goal

abbrev pub invariant-loop-target : goal.invariant-loop-target
invariant-loop-target l = ArePaired l.linked l.target l.pairs.items
