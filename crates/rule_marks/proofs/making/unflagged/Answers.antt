use Rattle.std.proofs.Common.{refl}
use Rattle.rule_marks.proofs.Writing.{flag_pushed}
use Rattle.rule_marks.proofs.making.unflagged.Goals as goal

pub loop-init : goal.loop-init
loop-init c = λ n. rw c.in_ok-flags.ensures.items refl

pub loop-preserved : goal.loop-preserved
loop-preserved c = λ n. rw c.in_ok-push.ensures.items (flag_pushed c.loop.flags.items c.loop.invariant n)
