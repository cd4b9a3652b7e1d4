use Rattle.std.proofs.Common.{◌∙◌, ap, sym}
use Rattle.lists.proofs.Joined.{some_from}
use Rattle.jim_step.specs.Frames.{frame_of}
use Rattle.jim_step.specs.Plans.{or_empty}
use Rattle.step_rules.specs.Slots.{operands_of}
use Rattle.jim_step.proofs.calls.call.Goals as goal

pub returns-in-Some-local-clause-row : goal.returns-in-Some-local-clause-row
returns-in-Some-local-clause-row c = λ statics.
    let set = some_from (operands_of c.args.linked.now (frame_of c.args.frame.now) c.args.args.now) (sym c.are_set.ensures ∙ c.if-not-are_set.false) in
    let called = rw (c.requires.args ∙ ap or_empty set.1) at (c.call_at.ensures.row (frame_of c.args.frame.now) statics) in
    rw (c.in-Some.is, set.1, sym c.local.ensures ∙ c.in-Some-local.is) called
