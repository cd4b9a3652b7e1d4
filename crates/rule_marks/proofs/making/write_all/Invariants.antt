use Rattle.std.proofs.Common.{ℕ, take}
use Rattle.rule_marks.specs.Making.{IsWriting, splits_by, splitting_of}
use Rattle.rule_marks.proofs.making.write_all.Given as goal

abbrev pub invariant-loop-i : goal.invariant-loop-i
invariant-loop-i g l =
    IsWriting g.W.Weight.domain (splitting_of (splits_by l.marks.are_split.now l.marks.common) l.marks.common l.marks.nodes l.marks.bases) (take l.i l.rules) l.made.items l.entries l.exits
