use Rattle.std.proofs.Common.{◌≤◌, sym, subst}
use Rattle.demand_set.specs.Walks.{HasAtMost}
use Rattle.link_rules.specs.Linked.{LinkedProgram}
use Rattle.link_rules.specs.WellLinked.{IsWellLinked}
use Rattle.narrow_rules.specs.Narrowed.{pairs_in}
use Rattle.refine_rules.specs.Refined.{IsRefinedBy}
use Rattle.refine_rules.proofs.Once.{rounds_determined}
use Rattle.lists.specs.Lists.{HasMore}
use Rattle.refined_query.specs.Answers.{IsDemandedBy}
use Rattle.refined_query.specs.Rounds.{StandsOrIsLost}
use Rattle.refined_query.proofs.Left.{left_fewer, left_node, left_well}
use Rattle.refined_query.proofs.Both.{both_ok}
use Rattle.refined_query.proofs.Sound.{refined_holds}
use Rattle.refined_query.proofs.answer.refined_sites.Goals as goal

pub answer_over-requires-clause-well : goal.answer_over-requires-clause-well
answer_over-requires-clause-well g c κs within =
    subst IsWellLinked (sym c.left_of.ensures) (left_well c.args.budget c.args.linked.now c.requires.well c.in_ok-last.ensures)

pub answer_over-requires-clause-node : goal.answer_over-requires-clause-node
answer_over-requires-clause-node g c κs within =
    subst (λ (q : LinkedProgram). StandsOrIsLost q c.args.node) (sym c.left_of.ensures)
    (left_node c.args.budget c.args.linked.now c.args.node c.requires.node c.in_ok-last.ensures)

pub answer_over-requires-clause-fewer : goal.answer_over-requires-clause-fewer
answer_over-requires-clause-fewer g c κs within =
    subst (λ (q : LinkedProgram). pairs_in q ≤ pairs_in c.args.linked.now) (sym c.left_of.ensures)
    (left_fewer c.args.budget c.args.linked.now c.in_ok-last.ensures)

pub returns-clause-answer : goal.returns-clause-answer
returns-clause-answer g c =
    let p = c.args.linked.now in
    let left = c.left_of.result.now in
    let by = subst (λ (q : LinkedProgram). IsRefinedBy c.args.budget p c.args.rounds q) (sym c.left_of.ensures) c.in_ok-last.ensures in
    both_ok c.answer_over.result _ _ _ c.answer_over.ensures.answer c.answer_over.ensures.lacks
    (λ a answer lacks. record { left = left; refined = by; lacks = lacks; answer = answer })

pub returns-clause-over : goal.returns-clause-over
returns-clause-over g c = λ spent e.
    let p = c.args.linked.now in
    let by = subst (λ (q : LinkedProgram). IsRefinedBy c.args.budget p c.args.rounds q) (sym c.left_of.ensures) c.in_ok-last.ensures in
    let over = c.answer_over.ensures.over spent e in
    (over.0, (c.left_of.result.now, by, over.1))

pub returns-clause-beyond : goal.returns-clause-beyond
returns-clause-beyond g c = λ over.
    let p = c.args.linked.now in
    let by = subst (λ (q : LinkedProgram). IsRefinedBy c.args.budget p c.args.rounds q) (sym c.left_of.ensures) c.in_ok-last.ensures in
    let same = rounds_determined p over.0 c.left_of.result.now c.args.budget c.args.rounds over.1 by in
    c.answer_over.ensures.beyond (subst (λ (q : LinkedProgram). HasMore (IsDemandedBy q c.args.node) c.args.budget) same over.2)

pub returns-clause-enough : goal.returns-clause-enough
returns-clause-enough g c = λ spent few.
    let p = c.args.linked.now in
    let by = subst (λ (q : LinkedProgram). IsRefinedBy c.args.budget p c.args.rounds q) (sym c.left_of.ensures) c.in_ok-last.ensures in
    let same = rounds_determined p few.0 c.left_of.result.now c.args.budget c.args.rounds few.1 by in
    c.answer_over.ensures.enough spent (subst (λ (q : LinkedProgram). HasAtMost (IsDemandedBy q c.args.node) c.args.budget) same few.2)

pub returns-clause-sound : goal.returns-clause-sound
returns-clause-sound g c = λ covered.
    let p = c.args.linked.now in
    let by = subst (λ (q : LinkedProgram). IsRefinedBy c.args.budget p c.args.rounds q) (sym c.left_of.ensures) c.in_ok-last.ensures in
    both_ok c.answer_over.result _ _ _ c.answer_over.ensures.answer c.answer_over.ensures.lacks
    (λ a answer lacks. refined_holds p c.requires.well c.args.rounds c.args.budget c.args.node a.narrowed a.sites a.demanded
    (record { left = c.left_of.result.now; refined = by; lacks = lacks; answer = answer }) covered)
