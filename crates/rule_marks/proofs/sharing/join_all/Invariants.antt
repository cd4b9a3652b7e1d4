use Rattle.std.proofs.Common.{length, take}
use Rattle.rule_marks.specs.Sharing.{IsJoining, leader_in}
use Rattle.rule_marks.proofs.sharing.join_all.Given as goal

abbrev pub invariant-loop-i : goal.invariant-loop-i
invariant-loop-i g l = IsJoining g.W.Weight.domain (length l.leaders) (leader_in l.leaders) l.fn.made.items (take l.i l.shared) l.made.items l.flags
