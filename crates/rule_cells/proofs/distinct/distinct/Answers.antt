use Rattle.std.proofs.Common.{◌↔◌, Some, ap, subst, sym, ◌∙◌, List}
use Rattle.std.proofs.lemmas.List.{take_all}
use Rattle.auto_table.specs.declared.rule.Rule.{Rule}
use Rattle.lists.specs.Lists.{Has}
use Rattle.std.proofs.lemmas.Option.{slice_get-get_or}
use Rattle.rule_cells.proofs.Differing.{rules_more}
use Rattle.rule_cells.proofs.distinct.distinct.Goals as goal

pub loop-i-init : goal.loop-i-init
loop-i-init g c = rw (c.new-shapes.ensures, c.new-few.ensures.items) (record {
  shapes = λ s. ((λ has. cc has.1), (λ has. cc has.1));
  rules = λ r. ((λ has. cc has.1), (λ has. cc has.1));
})

pub add_new-requires-clause-one : goal.add_new-requires-clause-one
add_new-requires-clause-one g c =
    let rules = c.args.rules.now in
    let r = c.index-rules-i.result in
    c.requires.ones r (c.loop-i.i, slice_get-get_or rules c.loop-i.i r c.loop-i-test.true ∙ ap Some (sym c.index-rules-i.is))

pub loop-i-preserved : goal.loop-i-preserved
loop-i-preserved g c = record {
  shapes = c.in_ok-add_new.ensures.shapes;
  rules = rules_more c.args.rules.now (Has c.loop-i.few.items) (Has c.add_new.new.few.items) c.loop-i.i c.index-rules-i.result c.loop-i-test.true c.index-rules-i.is
      c.loop-i.invariant.rules c.in_ok-add_new.ensures.rules;
}

pub returns : goal.returns
returns g c = λ r. subst (λ (rs : List (Rule g.row.W.Denot)). Has c.loop-i.few.items r ↔ Has rs r) (take_all c.loop-i.i c.args.rules.now c.loop-i-test.false) (c.loop-i.invariant.rules r)
