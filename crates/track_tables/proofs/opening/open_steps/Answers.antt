use Rattle.std.proofs.Common.{◌<◌, length, get_or, arith}
use Rattle.std.proofs.lemmas.List.{take_all}
use Rattle.call_side.proofs.Filed.{no_step}
use Rattle.lists.specs.Lists.{Has}
use Rattle.lists.proofs.Places.{Has-adds_itself}
use Rattle.post_star.specs.declared.bases.BaseStep.{BaseStep}
use Rattle.track_tables.proofs.Backward.{each_of_more}
use Rattle.track_tables.proofs.Growing.{kept_adds, kept_has}
use Rattle.track_tables.proofs.opening.open_steps.Goals as goal

pub loop-step-init : goal.loop-step-init
loop-step-init c = record { bases = λ number x there. there; marks = λ number x there. there; steps = λ step has. cc has.1 }

pub loop-step-preserved : goal.loop-step-preserved
loop-step-preserved c =
    let steps = c.args.steps.now in
    let index = c.loop-step.step-index in
    let below : index < length steps = omega arith in
    let it = get_or steps index no_step in
    let marks = c.loop-step.marks.keys in
    let more = c.add.new.self.keys in
    let bases = c.loop-step.bases.keys in
    let new = c.add-in-loop-step.new.self.keys in
    let opened = kept_adds marks more it.mark c.in_ok-add.ensures.keys in
    let kept = kept_adds bases new it.below c.in_ok-add-2.ensures.keys in
    let was = c.loop-step.invariant in
    record {
      bases = λ number x there. kept number x (was.bases number x there);
      marks = λ number x there. opened number x (was.marks number x there);
      steps = each_of_more steps index no_step below (λ (step : BaseStep). Has more step.mark × Has new step.below)
          (λ step has. let x = was.steps step has in (kept_has marks more step.mark opened x.0, kept_has bases new step.below kept x.1))
          (Has-adds_itself marks more it.mark c.in_ok-add.ensures.keys, Has-adds_itself bases new it.below c.in_ok-add-2.ensures.keys);
    }

pub returns-clause-steps : goal.returns-clause-steps
returns-clause-steps c = let all = take_all c.loop-step.step-index c.args.steps.now (omega arith) in rw all at c.loop-step.invariant.steps
