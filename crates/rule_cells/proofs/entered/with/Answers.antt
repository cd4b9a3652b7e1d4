use Rattle.std.proofs.Common.{refl, subst}
use Rattle.std.proofs.lemmas.Bool.{false≢true}
use Rattle.post_star.specs.Measures.{to_of}
use Rattle.rule_cells.specs.declared.entered.Entered.{Entered}
use Rattle.rule_cells.specs.Entered.{IsEntered}
use Rattle.rule_cells.proofs.Entering.{once_again, once_otherwise, otherwise_more}
use Rattle.rule_cells.proofs.entered.with.Goals as goal

pub returns-in-Never : goal.returns-in-Never
returns-in-Never g c rules kept was =
    c.first.ensures rules kept (subst (λ (e : Entered g.row.W.Denot). IsEntered c.args.count rules kept (to_of c.args.rule.now) e) c.in-Never.is was)

pub returns-then-is_flow : goal.returns-then-is_flow
returns-then-is_flow g c rules kept was =
    once_again c.args.count rules kept c.args.rule.now c.in-Once.from (to_of c.args.rule.now) c.in-Once.weight refl (c.if-is_flow.ensures.0 refl)
    (subst (λ (e : Entered g.row.W.Denot). IsEntered c.args.count rules kept (to_of c.args.rule.now) e) c.in-Once.is was)

pub returns-else-is_flow : goal.returns-else-is_flow
returns-else-is_flow g c rules kept was =
    once_otherwise c.args.count rules kept c.args.rule.now c.in-Once.from (to_of c.args.rule.now) c.in-Once.weight refl (λ h. false≢true (c.if-is_flow.ensures.1 h))
    (subst (λ (e : Entered g.row.W.Denot). IsEntered c.args.count rules kept (to_of c.args.rule.now) e) c.in-Once.is was)

pub returns-in-Otherwise : goal.returns-in-Otherwise
returns-in-Otherwise g c rules kept was =
    otherwise_more c.args.count rules kept c.args.rule.now (to_of c.args.rule.now)
    (subst (λ (e : Entered g.row.W.Denot). IsEntered c.args.count rules kept (to_of c.args.rule.now) e) c.in-Otherwise.is was)
