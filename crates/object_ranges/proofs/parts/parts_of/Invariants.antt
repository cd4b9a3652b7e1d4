use Rattle.std.proofs.Common.{◌-◌}
use Rattle.object_ranges.specs.Parts.{ArePartsTo}
use Rattle.object_ranges.specs.Selections.{selected_at}
use Rattle.object_ranges.proofs.parts.parts_of.Given as goal

abbrev pub invariant-loop-start : goal.invariant-loop-start
invariant-loop-start l = ArePartsTo l.objects (selected_at l.turns l.defaults) l.start l.parts.items

abbrev pub decreases-loop-start : goal.decreases-loop-start
decreases-loop-start l = l.count - l.start
