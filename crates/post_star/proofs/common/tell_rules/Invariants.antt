use Rattle.auto_table.specs.declared.rule.Rule.{Rule}
use Rattle.post_star.specs.Works.{weight_of}
use Rattle.post_star.proofs.Loops.{EachBefore}
use Rattle.post_star.proofs.common.tell_rules.Given as goal

abbrev pub invariant-loop-rule : goal.invariant-loop-rule
invariant-loop-rule g l = EachBefore (λ (r : Rule g.row.W.Denot). g.W.Weight.domain.IsMeant (weight_of r)) l.rules l.rule-index
