use Rattle.std.proofs.Common.{◌≡◌, ◌<◌, ◌+◌, ℕ, Some, None, get_or, slice_get, length, inl, inr, arith, subst, sym}
use Rattle.std.proofs.lemmas.Bool.{cases_lt}
use Rattle.std.proofs.lemmas.Option.{slice_get-get_or}
use Rattle.lists.specs.Lists.{Has}
use Rattle.lists.proofs.Places.{slice_get-below}
use Rattle.post_star.specs.declared.bases.BaseStep.{BaseStep}
use Rattle.call_side.proofs.Filed.{no_step}
use Rattle.call_side.proofs.Trails.{step_to}
use Rattle.call_side.proofs.homes.add_all.Goals as goal

pub loop-step-preserved : goal.loop-step-preserved
loop-step-preserved c =
    let on = c.in_ok-add.ensures in
    let index = c.loop-step.step-index in
    let step = get_or c.args.steps.now index no_step in
    let there = slice_get-get_or c.args.steps.now index no_step c.loop-step-test.true in
    record {
      kept = λ number x was. on.kept number x (c.loop-step.invariant.kept number x was);
      there = λ i found less is. elim (cases_lt i index) [
        | inl before ↦ let was = c.loop-step.invariant.there i found before is in (was.0, on.kept was.0 found.base was.1)
        | inr other ↦
            let here : i ≡ index = omega arith in
            let same : found ≡ step = let at_index : slice_get c.args.steps.now index ≡ Some found = subst (λ k. slice_get c.args.steps.now k ≡ Some found) here is in cc in
            subst (λ (s : BaseStep). Has c.add.new.self.bases.keys s.base) (sym same) on.there
      ];
      homes = λ all last below was among homes.
          let leads = among step (index, there) in
          on.homes all last (below, c.loop-step.invariant.kept c.args.number below was, step_to all step below leads.0 leads.1) (c.loop-step.invariant.homes all last below was among homes);
    }

pub returns-clause-there : goal.returns-clause-there
returns-clause-there c step has =
    c.loop-step.invariant.there has.0 step (omega (arith, slice_get-below c.args.steps.now has.0 step has.1, c.loop-step-test.false)) has.1
