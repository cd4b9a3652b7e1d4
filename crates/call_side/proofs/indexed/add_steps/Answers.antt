use Rattle.std.proofs.Common.{take}
use Rattle.std.proofs.lemmas.Option.{slice_get-get_or}
use Rattle.lists.proofs.Places.{take-next}
use Rattle.call_side.specs.Indexed.{base_key, mark_key}
use Rattle.call_side.proofs.Filed.{filed_more, no_step}
use Rattle.call_side.proofs.indexed.add_steps.Goals as goal

pub loop-step-preserved : goal.loop-step-preserved
loop-step-preserved c =
    let steps = c.args.steps.now in
    let index = c.loop-step.step-index in
    let there = slice_get-get_or steps index no_step c.loop-step-test.true in
    rw (take-next steps index _ there) (record {
      bases = filed_more base_key (take index steps) c.loop-step.by_base c.add.new.self _ c.in_ok-add.ensures.last c.loop-step.invariant.bases;
      marks = filed_more mark_key (take index steps) c.loop-step.by_mark c.add-in-loop-step.new.self _ c.in_ok-add-2.ensures.last c.loop-step.invariant.marks;
    })
