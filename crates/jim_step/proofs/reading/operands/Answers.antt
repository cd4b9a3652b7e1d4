use Rattle.std.proofs.Common.{◌∙◌, ap, sym}
use Rattle.jim_step.proofs.SetOperands.{set_at, unset_at}
use Rattle.jim_step.specs.Frames.{frame_of}
use Rattle.jim_step.specs.Plans.{or_empty}
use Rattle.jim_step.proofs.reading.operands.Goals as goal

pub returns-in-None : goal.returns-in-None
returns-in-None c = c.new.ensures.items ∙ sym (ap or_empty
    (unset_at c.args.linked.now (frame_of c.args.frame.now) c.args.args.now c.loop-arg.arg-index _ c.loop-arg-test.true (sym c.operand.ensures ∙ c.in-None.is)))

pub loop-arg-preserved : goal.loop-arg-preserved
loop-arg-preserved c = rw c.in_ok-push-in-Some.ensures.items
    (set_at c.args.linked.now (frame_of c.args.frame.now) c.args.args.now c.loop-arg.arg-index _ c.loop-arg.values.items c.in-Some.value c.loop-arg-test.true
    (sym c.operand.ensures ∙ c.in-Some.is) c.loop-arg.invariant)
