use Rattle.std.proofs.Common.{refl, ap, arith}
use Rattle.std.proofs.lemmas.Bool.{false≢true}
use Rattle.rule_cells.proofs.Contracting.{done_less, done_more, done_none, few_all}
use Rattle.rule_cells.proofs.contraction.contract.Goals.{then-leads_to_head+in_ok-push+in_ok-push-2, else-leads_to_head}
use Rattle.rule_cells.proofs.contraction.contract.Goals as goal

pub loop-number-init : goal.loop-number-init
loop-number-init g c = rw (c.new-few.ensures.items, c.new-sources.ensures.items) (done_none g.W.Weight.domain c.args.cells.now c.args.rules.now)

pub loop-number-preserved : goal.loop-number-preserved
loop-number-preserved g c = elim c.if-leads_to_head.branch [
  | then-leads_to_head+in_ok-push+in_ok-push-2 w ↦
      done_more g.W.Weight.domain c.args.cells.now c.args.rules.now c.loop-number.few.items c.if-leads_to_head.few.items c.loop-number.sources.items
      c.if-leads_to_head.sources.items c.loop-number.number c.index-rules-number.result c.loop-number-test.true c.index-rules-number.is (w.if-leads_to_head.ensures.0 refl)
      (cc (w.few-is, w.in_ok-push.ensures.items, w.moved.ensures)) (cc (w.sources-is, w.in_ok-push-2.ensures.items)) c.loop-number.invariant
  | else-leads_to_head w ↦
      done_less g.W.Weight.domain c.args.cells.now c.args.rules.now c.loop-number.few.items c.if-leads_to_head.few.items c.loop-number.sources.items
      c.if-leads_to_head.sources.items c.loop-number.number c.index-rules-number.result c.loop-number-test.true c.index-rules-number.is
      (λ h. false≢true (w.if-leads_to_head.ensures.1 h)) (ap (λ v. v.items) w.few-is) (ap (λ v. v.items) w.sources-is) c.loop-number.invariant
]

pub returns-clause-rules : goal.returns-clause-rules
returns-clause-rules g c =
    few_all g.W.Weight.domain c.args.cells.now c.args.rules.now c.loop-number.few.items c.loop-number.number (omega (arith, c.loop-number-test.false)) c.loop-number.invariant.few_are

pub returns-clause-sources : goal.returns-clause-sources
returns-clause-sources g c = c.loop-number.invariant.sources_are
