use Rattle.std.proofs.Common.{◌≡◌, ◌≤◌, ℕ, List, Ok, Err, Result, length, refl, sym, inr, arith}
use Rattle.std.specs.Result.{IfOk}
use Rattle.link_rules.specs.Linked.{LinkedProgram}
use Rattle.spds_rules.specs.declared.node.Node.{Node}
use Rattle.spds_rules.specs.Demand.{Demand, about}
use Rattle.lists.specs.Lists.{AreAll}
use Rattle.cert_rules.specs.declared.certificate.Certificate.{Certificate}
use Rattle.cert_rules.specs.Certified.{IsCertified}
use Rattle.report_text.specs.Answers.{IsQueryNode}
use Rattle.cert_query.specs.declared.replaying.Accepted.{Accepted}
use Rattle.cert_query.specs.Replays.{IsAccepted, IsAskable}
use Rattle.cert_query.proofs.replaying.checked.Goals as goal

module _ (p : LinkedProgram) (budget : ℕ) (cert : Certificate) (node : IsQueryNode p cert.target) (nodes : List Node) (all : AreAll (Demand p (about cert.target)) nodes) (within : length nodes ≤ budget) where
  -- the demand was found within the budget
  askable : (demanded : ℕ) → demanded ≡ length nodes → IsAskable p budget cert demanded
  askable demanded e = record { is_node = node; size = (nodes, all, sym e); affordable = omega (arith, within, e) }

  accepted : {E : Type 0} (r : Result Accepted E) → IfOk r (λ a. a.target ≡ cert.target) → IfOk r (λ a. a.demanded ≡ length nodes)
      → IfOk r (λ a. IsCertified p cert.target cert.lines a.site) → IfOk r (λ a. IsAccepted p budget cert a.target a.site a.demanded)
  accepted (Ok a) target size certified = record { is_target = target; askable = askable a.demanded size; certified = certified }
  accepted (Err e) target size certified = tt

pub returns-in-Ok-clause-accepted : goal.returns-in-Ok-clause-accepted
returns-in-Ok-clause-accepted c =
    accepted c.args.linked.now c.args.budget c.args.certificate.now (c.may_be_asked.ensures.0 c.if-not-may_be_asked.false) _ c.in-Ok.ensures.demanded.nodes
    c.in-Ok.ensures.within c.judged.result c.judged.ensures.target c.judged.ensures.size c.judged.ensures.certified

pub returns-in-Ok-clause-rejected : goal.returns-in-Ok-clause-rejected
returns-in-Ok-clause-rejected c = λ line e.
    inr (
      _,
      askable c.args.linked.now c.args.budget c.args.certificate.now (c.may_be_asked.ensures.0 c.if-not-may_be_asked.false) _ c.in-Ok.ensures.demanded.nodes
          c.in-Ok.ensures.within (length c.in-Ok.demand.nodes) refl,
      c.judged.ensures.rejected line e,
    )

pub returns-in-Ok-clause-over : goal.returns-in-Ok-clause-over
returns-in-Ok-clause-over c = λ spent e. absurd (c.judged.ensures.within spent e)
