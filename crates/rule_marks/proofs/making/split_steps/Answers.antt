use Rattle.std.proofs.Common.{List, sym, subst}
use Rattle.std.proofs.lemmas.List.{take_all, take_more}
use Rattle.std.proofs.lemmas.Option.{slice_get-get_or}
use Rattle.post_star.specs.declared.bases.BaseStep.{BaseStep}
use Rattle.rule_marks.specs.Making.{AreStepsOf, splits_by, splitting_of}
use Rattle.rule_marks.proofs.Writing.{steps_none}
use Rattle.rule_marks.proofs.making.split_steps.Goals as goal

pub loop-i-init : goal.loop-i-init
loop-i-init c = rw c.new-made.ensures.items (steps_none (splitting_of (splits_by c.args.marks.now.are_split.now c.args.marks.now.common) c.args.marks.now.common c.args.marks.now.nodes c.args.marks.now.bases))

pub loop-i-preserved : goal.loop-i-preserved
loop-i-preserved c =
    subst (λ (xs : List BaseStep). AreStepsOf (splitting_of (splits_by c.args.marks.now.are_split.now c.args.marks.now.common) c.args.marks.now.common c.args.marks.now.nodes c.args.marks.now.bases) xs c.write_step.new.made.items)
    (sym (take_more c.args.steps.now c.loop-i.i _ c.loop-i-test.true))
    (c.in_ok-write_step.ensures _ (c.loop-i.invariant))

pub returns : goal.returns
returns c =
    subst (λ (xs : List BaseStep). AreStepsOf (splitting_of (splits_by c.args.marks.now.are_split.now c.args.marks.now.common) c.args.marks.now.common c.args.marks.now.nodes c.args.marks.now.bases) xs c.loop-i.made.items)
    (take_all c.loop-i.i c.args.steps.now c.loop-i-test.false) (c.loop-i.invariant)

pub write_step-requires : goal.write_step-requires
write_step-requires c = record { fits = c.requires.fits _ (c.loop-i.i, slice_get-get_or c.args.steps.now c.loop-i.i _ c.loop-i-test.true) }
