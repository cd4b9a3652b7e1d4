use Rattle.std.proofs.Common.{◌-◌, ◌∙◌, arith, ap}
use Rattle.jim_step.proofs.Steadies.{offers_of}
use Rattle.jim_step.proofs.Tops.{top_is}
use Rattle.jim_step.specs.Frames.{frame_of}
use Rattle.step_rules.specs.States.{State}
use Rattle.jim_step.proofs.running.planned.Goals as goal

pub returns-clause-row : goal.returns-clause-row
returns-clause-row c = λ at stands.
    let top = top_is c.args.kept.now.frames.items (c.len.result - 1) c.index-top.result.now at.below at.top (omega arith) c.index-top.ensures
    (ap (λ (s : State). s.frames) stands) in
    offers_of c.args.linked.now at (frame_of c.index-top.result.now) c.args.kept.now.heap c.as_slice.result.now c.plan_of.result top
    (ap (λ (s : State). s.heap) stands) (c.as_slice.ensures.value ∙ ap (λ (s : State). s.statics) stands) c.plan_of.ensures.row
