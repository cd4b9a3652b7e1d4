use Rattle.std.proofs.Common.{ℕ, ◌<◌, ◌↔◌, ◌∙◌, length-set, get_or, subst}
use Rattle.std.proofs.lemmas.List.{take_all}
use Rattle.class_rules.specs.Rows.{HasInterface}
use Rattle.class_order.specs.Tables.{Under}
use Rattle.class_tree.proofs.StepLists.{implementers_more}
use Rattle.class_tree.proofs.steps.implementers.Goals as goal

pub loop-class-preserved : goal.loop-class-preserved
loop-class-preserved c =
    let named : (get_or c.args.implements.now c.loop-class.class-index (0, 0)).1 < c.args.count = c.requires _ _ c.loop-class-test.true in
    rw c.in_ok-push.ensures (record {
      len = length-set _ _ _ ∙ c.loop-class.invariant.len;
      steps = implementers_more _ _ c.loop-class.class-index _ c.loop-class-test.true (rw c.loop-class.invariant.len named) c.loop-class.invariant.steps;
    })

pub returns-clause-steps : goal.returns-clause-steps
returns-clause-steps c =
    let whole = take_all c.loop-class.class-index c.args.implements.now c.loop-class-test.false in
    subst (λ (rows : _). (a b : ℕ) → Under c.loop-class.lists a b ↔ HasInterface rows a b) whole c.loop-class.invariant.steps
