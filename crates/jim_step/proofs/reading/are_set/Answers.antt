use Rattle.std.proofs.Common.{◌∙◌, take, ap, sym, not}
use Rattle.std.specs.Option.{is_some}
use Rattle.lists.proofs.Joined.{none_from, some_from}
use Rattle.jim_step.proofs.SetOperands.{set_at, unset_at}
use Rattle.jim_step.specs.Frames.{frame_of}
use Rattle.step_rules.specs.Slots.{operands_of}
use Rattle.jim_step.proofs.reading.are_set.Goals as goal

pub returns-then-is_none : goal.returns-then-is_none
returns-then-is_none c =
    let unset = none_from c.operand.result (c.is_none.ensures ∙ ap not c.if-is_none.true) in
    let none = unset_at c.args.linked.now (frame_of c.args.frame.now) c.args.args.now c.loop-arg.arg-index _ c.loop-arg-test.true (sym c.operand.ensures ∙ unset) in
    sym (ap is_some none)

pub loop-arg-preserved : goal.loop-arg-preserved
loop-arg-preserved c =
    let set = some_from c.operand.result (c.is_none.ensures ∙ ap not c.if-is_none.false) in
    let before = some_from (operands_of c.args.linked.now (frame_of c.args.frame.now) (take c.loop-arg.arg-index c.args.args.now)) c.loop-arg.invariant in
    ap is_some (set_at c.args.linked.now (frame_of c.args.frame.now) c.args.args.now c.loop-arg.arg-index _ before.0 set.0 c.loop-arg-test.true
    (sym c.operand.ensures ∙ set.1) before.1)
