use Rattle.std.proofs.Common.{take}
use Rattle.std.proofs.lemmas.List.{take_all}
use Rattle.std.proofs.lemmas.Option.{slice_get-get_or}
use Rattle.call_side.specs.Indexed.{base_key}
use Rattle.call_side.proofs.Filed.{filed_more, no_step}
use Rattle.lists.proofs.Places.{take-next}
use Rattle.track_tables.proofs.parts.by_base.Goals as goal

pub loop-step-preserved : goal.loop-step-preserved
loop-step-preserved c =
    let steps = c.args.steps.now in
    let index = c.loop-step.step-index in
    let there = slice_get-get_or steps index no_step c.loop-step-test.true in
    rw (take-next steps index _ there) (filed_more base_key (take index steps) c.loop-step.filed c.add.new.self _ c.in_ok-add.ensures.last c.loop-step.invariant)

pub returns : goal.returns
returns c = let all = take_all c.loop-step.step-index c.args.steps.now c.loop-step-test.false in rw all at c.loop-step.invariant
