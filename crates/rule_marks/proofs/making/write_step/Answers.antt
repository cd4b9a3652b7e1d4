use Rattle.std.proofs.Common.{◌+◌, ◌++◌, ◌∷◌, [], List, ap, ◌∙◌, sym, subst}
use Rattle.post_star.specs.declared.bases.BaseStep.{BaseStep}
use Rattle.post_star.specs.Derivations.{step_of}
use Rattle.rule_marks.specs.Making.{AreStepsOf, splits_by, splitting_of}
use Rattle.rule_marks.proofs.Writing.{steps_split, steps_whole}
use Rattle.rule_marks.proofs.making.write_step.Goals as goal

pub returns-in_ok-push-2 : goal.returns-in_ok-push-2
returns-in_ok-push-2 c = λ steps was.
    let s = splitting_of (splits_by c.args.marks.now.are_split.now c.args.marks.now.common) c.args.marks.now.common c.args.marks.now.nodes c.args.marks.now.bases in
    let step = c.args.step in
    subst (λ (xs : List BaseStep). AreStepsOf s (steps ++ step ∷ []) xs)
    (sym (c.in_ok-push-2.ensures.items ∙ ap (λ (xs : List BaseStep). xs ++ step_of (s.below step.base) step.mark step.below ∷ []) c.in_ok-push.ensures.items))
    (steps_split s steps c.args.made.now.items step (sym c.splits-splits.ensures ∙ c.if-splits.true) was)

pub returns-in_ok-push-3 : goal.returns-in_ok-push-3
returns-in_ok-push-3 c = λ steps was.
    let s = splitting_of (splits_by c.args.marks.now.are_split.now c.args.marks.now.common) c.args.marks.now.common c.args.marks.now.nodes c.args.marks.now.bases in
    rw c.in_ok-push-3.ensures.items (steps_whole s steps c.args.made.now.items c.args.step (sym c.splits-splits.ensures ∙ c.if-splits.false) was)
