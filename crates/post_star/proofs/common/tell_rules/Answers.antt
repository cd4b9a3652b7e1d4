use Rattle.std.proofs.Common.{ap, sym, ◌∙◌, Some, arith}
use Rattle.std.proofs.lemmas.Option.{slice_get-get_or}
use Rattle.auto_table.specs.declared.rule.Rule.{Rule}
use Rattle.post_star.specs.Works.{weight_of}
use Rattle.post_star.proofs.Loops.{each_all, each_more}
use Rattle.post_star.proofs.common.tell_rules.Goals as goal

pub loop-rule-init : goal.loop-rule-init
loop-rule-init g c = λ i r h at. absurd (omega arith)

pub loop-rule-preserved : goal.loop-rule-preserved
loop-rule-preserved g c = each_more (λ (r : Rule g.row.W.Denot). g.W.Weight.domain.IsMeant (weight_of r)) c.args.rules.now c.loop-rule.rule-index c.rule-item.result
    (slice_get-get_or c.args.rules.now c.loop-rule.rule-index c.rule-item.result c.loop-rule-test.true ∙ ap Some (sym c.rule-item.is)) c.tell_rule.ensures c.loop-rule.invariant

pub returns : goal.returns
returns g c = each_all (λ (r : Rule g.row.W.Denot). g.W.Weight.domain.IsMeant (weight_of r)) c.args.rules.now c.loop-rule.rule-index c.loop-rule-test.false c.loop-rule.invariant
