use Rattle.object_ranges.proofs.Leasted.{AreLeastsTo}
use Rattle.object_ranges.proofs.chosen.leasts_in.Given as goal

abbrev pub invariant-loop-span : goal.invariant-loop-span
invariant-loop-span l = AreLeastsTo l.objects l.spans l.span-index l.leasts.items
