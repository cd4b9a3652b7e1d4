use Rattle.std.proofs.Common.{◌<◌, ◌∙◌, List, sym, subst, arith}
use Rattle.lists.specs.Lists.{Has}
use Rattle.call_side.specs.Coded.{base_count}
use Rattle.post_star.specs.declared.bases.BaseStep.{BaseStep}
use Rattle.rule_marks.specs.Making.{AreStepsOf}
use Rattle.rule_marks.specs.Split.{Splitting}
use Rattle.call_side.proofs.Coding.{marks_splitting, steps_coded}
use Rattle.call_side.proofs.Targets.{All-at}
use Rattle.call_side.proofs.split_bases.CallBases.new.Goals as goal

-- the bases of a step are within the count
abbrev IsLow : BaseStep → Type 0
IsLow s = (s.base < base_count) × (s.below < base_count)

pub split_steps-requires : goal.split_steps-requires
split_steps-requires c = record {
  fits = λ step has.
      let there : Has c.deref.result.now step = subst (λ (xs : List BaseStep). Has xs step) (c.deref-4.ensures.value ∙ sym c.deref.ensures.value) has in
      let low = All-at IsLow c.deref.result.now there.0 step (c.steps_fit.ensures.0 c.if-not-steps_fit.false) there.1 in
      let base_low : step.base < 2147483648 = low.0 in
      omega arith;
}

pub invariant_of-result : goal.invariant_of-result
invariant_of-result c =
    let crowds_are = rw c.deref-2.ensures.value at c.in_ok-crowds.ensures in
    let all = rw c.deref.ensures.value at (c.steps_fit.ensures.0 c.if-not-steps_fit.false) in
    let within = λ (step : BaseStep) (has : Has c.args.steps.items step). All-at IsLow c.args.steps.items has.0 step all has.1 in
    let marks = c.marks_of-marks.ensures in
    let are = rw c.deref-4.ensures.value at c.in_ok-split.ensures in
    record {
      crowds_are = crowds_are;
      coded = rw c.in_ok-split-2.ensures
          (steps_coded c.args.steps.items c.in_ok-split.split.items c.args.last within c.if-last-ge-BASES.false
          (subst (λ (s : Splitting). AreStepsOf s c.args.steps.items c.in_ok-split.split.items)
          (marks_splitting c.marks_of-marks.result.are_split.now c.in_ok-crowds.crowds.items _ _ _ c.args.steps.items (marks.crowds ∙ c.deref-3.ensures.value) marks.common marks.nodes marks.bases
          crowds_are)
          are));
    }
