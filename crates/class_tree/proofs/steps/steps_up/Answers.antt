use Rattle.std.proofs.Common.{◌∙◌, arith, length-set, inl, inr}
use Rattle.class_rules.proofs.Parents.{parent-below}
use Rattle.class_tree.proofs.StepLists.{up_interfaces, up_more, up_none}
use Rattle.class_tree.proofs.steps.steps_up.Goals as goal
use Rattle.class_tree.proofs.steps.steps_up.Goals.{in-Some+in_ok-push, in_default}

pub loop-class-init : goal.loop-class-init
loop-class-init c = record {
  len = c.in_ok-above.ensures.len;
  steps = up_interfaces c.args.classes.now c.args.implements.now c.in_ok-above.above c.in_ok-above.ensures.lists;
}

pub loop-class-preserved : goal.loop-class-preserved
loop-class-preserved c = elim c.match-row.branch [
  | in-Some+in_ok-push w ↦ rw (w.above-is, w.in_ok-push.ensures) (record {
    len = length-set _ _ _ ∙ c.loop-class.invariant.len;
    steps = up_more _ _ _ c.loop-class.class w.in-Some.parent _ c.loop-class-test.true (omega (arith, c.loop-class-test.true, c.loop-class.invariant.len)) w.in-Some.is c.loop-class.invariant.steps;
  })
  | in_default w ↦ rw w.above-is (record {
    len = c.loop-class.invariant.len;
    steps = up_none _ _ _ c.loop-class.class _ w.in_default.not-Some c.loop-class.invariant.steps;
  })
]

pub returns-clause-steps : goal.returns-clause-steps
returns-clause-steps c = λ a b. (
  λ u. elim ((c.loop-class.invariant.steps a b).0 u) [ inl m ↦ inr m | inr q ↦ inl q.1 ],
  λ s. elim s [
    | inl p ↦ (c.loop-class.invariant.steps a b).1 (inr (omega (arith, parent-below _ a b p, c.loop-class-test.false), p))
    | inr m ↦ (c.loop-class.invariant.steps a b).1 (inl m)
  ],
)
