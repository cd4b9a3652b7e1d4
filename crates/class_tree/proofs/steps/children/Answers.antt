use Rattle.std.proofs.Common.{◌<◌, Contains, get_or, length, subst, sym, ◌∙◌, length-set}
use Rattle.std.proofs.lemmas.List.{take_all}
use Rattle.class_rules.proofs.Parents.{parent_from, parent-below}
use Rattle.class_tree.proofs.StepLists.{children_more, children_none}
use Rattle.class_tree.proofs.steps.children.Goals as goal
use Rattle.class_tree.proofs.steps.children.Goals.{in-Some+in_ok-push, in_default}

pub push-requires : goal.push-requires
push-requires c =
    let known = c.requires.within c.loop-class.class-index 0 c.loop-class-test.true in
    rw c.loop-class.invariant.len (c.requires.known _ c.in-Some.parent (parent_from _ _ _ _ known c.in-Some.is))

pub loop-class-preserved : goal.loop-class-preserved
loop-class-preserved c =
    let class_known = c.requires.within c.loop-class.class-index 0 c.loop-class-test.true in
    elim c.match-classes-class.branch [
      | in-Some+in_ok-push w ↦
          let known = c.requires.known (get_or c.args.order.now c.loop-class.class-index 0) w.in-Some.parent (parent_from _ _ _ _ class_known w.in-Some.is) in
          let there : w.in-Some.parent < length c.loop-class.below = rw c.loop-class.invariant.len known in
          rw (w.below-is, w.in_ok-push.ensures) (record {
            len = length-set _ _ _ ∙ c.loop-class.invariant.len;
            steps = children_more _ _ c.args.order.now c.loop-class.class-index w.in-Some.parent _ c.loop-class-test.true class_known there w.in-Some.is c.loop-class.invariant.steps;
          })
      | in_default w ↦ rw w.below-is (record {
        len = c.loop-class.invariant.len;
        steps = children_none _ _ c.args.order.now c.loop-class.class-index _ c.loop-class-test.true w.in_default.not-Some c.loop-class.invariant.steps;
      })
    ]

pub returns-clause-steps : goal.returns-clause-steps
returns-clause-steps c =
    let whole = take_all c.loop-class.class-index c.args.order.now c.loop-class-test.false in
    λ a b. (
      λ u. ((c.loop-class.invariant.steps a b).0 u).1,
      λ p. (c.loop-class.invariant.steps a b).1 (subst (λ xs. Contains xs a) (sym whole) (c.requires.all a (parent-below _ a b p)), p),
    )
