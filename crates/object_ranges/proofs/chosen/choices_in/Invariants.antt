use Rattle.std.proofs.Common.{◌-◌, ◌++◌, List, drop, length}
use Rattle.object_ranges.specs.declared.chosen.Choice.{Choice}
use Rattle.object_ranges.specs.Chosen.{AreChoicesOf}
use Rattle.object_ranges.proofs.chosen.choices_in.Given as goal

abbrev pub invariant-loop-at : goal.invariant-loop-at
invariant-loop-at l = (rest : List Choice) → AreChoicesOf l.objects l.spans (drop l.at l.parts) rest → AreChoicesOf l.objects l.spans l.parts (l.choices.items ++ rest)

abbrev pub decreases-loop-at : goal.decreases-loop-at
decreases-loop-at l = length l.parts - l.at
