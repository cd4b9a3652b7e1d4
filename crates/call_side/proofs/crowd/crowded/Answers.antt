use Rattle.std.proofs.Common.{◌∙◌, get_or, ap, arith}
use Rattle.std.specs.List.{list_any}
use Rattle.std.proofs.lemmas.List.{take_all}
use Rattle.post_star.specs.Derivations.{step_of}
use Rattle.call_side.specs.Crowds.{crowds}
use Rattle.call_side.proofs.Crowding.{crowd_told, flagged_more, flagged_same}
use Rattle.call_side.proofs.crowd.crowded.Goals as goal
use Rattle.call_side.proofs.crowd.crowded.Goals.{then-many+in_ok-flag, else-many}

pub loop-step-preserved : goal.loop-step-preserved
loop-step-preserved c = λ k.
    let steps = c.args.steps.now in
    let none = step_of 0 0 0 in
    let told = crowd_told c.in_ok-entering.entering steps (get_or steps c.loop-step.step-index none) c.is_crowded-many.result c.in_ok-entering.ensures c.is_crowded-many.ensures in
    elim c.if-many.branch [
      | then-many+in_ok-flag w ↦
          rw w.flags-is (flagged_more steps k c.loop-step.step-index none _ _ (omega arith) (told ∙ w.if-many.true) (c.loop-step.invariant k) (w.in_ok-flag.ensures k))
      | else-many w ↦ rw w.flags-is (flagged_same steps k c.loop-step.step-index none _ (omega arith) (told ∙ w.if-many.false) (c.loop-step.invariant k))
    ]

pub returns : goal.returns
returns c = λ k. c.loop-step.invariant k ∙ ap (list_any (crowds c.args.steps.now k)) (take_all c.loop-step.step-index c.args.steps.now (omega arith))
