use Rattle.std.proofs.Common.{ℕ, take}
use Rattle.rule_marks.specs.Making.{AreStepsOf, splits_by, splitting_of}
use Rattle.rule_marks.proofs.making.split_steps.Given as goal

abbrev pub invariant-loop-i : goal.invariant-loop-i
invariant-loop-i l = AreStepsOf (splitting_of (splits_by l.marks.are_split.now l.marks.common) l.marks.common l.marks.nodes l.marks.bases) (take l.i l.steps) l.made.items
