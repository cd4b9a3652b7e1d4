use Rattle.std.proofs.Common.{Some, ap, sym, ◌∙◌, subst, inl, inr}
use Rattle.std.proofs.lemmas.Option.{slice_get-get_or}
use Rattle.auto_table.specs.declared.rule.Rule.{Rule}
use Rattle.lists.specs.Lists.{Has}
use Rattle.rule_cells.specs.Distinct.{rule_of}
use Rattle.rule_cells.proofs.Differing.{rule_of-shape_of}
use Rattle.rule_cells.proofs.followed.flows_from.Goals as goal

pub loop-i-init : goal.loop-i-init
loop-i-init g c = rw c.new-shapes.ensures (λ s has. cc has.1)

pub loop-i-preserved : goal.loop-i-preserved
loop-i-preserved g c s has = elim (c.in_ok-add_from.ensures s has) [
  | inl before ↦ c.loop-i.invariant s before
  | inr is ↦
      let rules = c.args.rules.now in
      let r = c.index-rules-i.result in
      let there : Has rules r = (c.loop-i.i, slice_get-get_or rules c.loop-i.i r c.loop-i-test.true ∙ ap Some (sym c.index-rules-i.is)) in
      subst (λ (q : Rule g.row.W.Denot). Has rules q) (sym (ap (rule_of g.W.Weight.domain) is ∙ rule_of-shape_of g.W.Weight.domain r (c.requires.ones r there))) there
]
