use Rattle.std.proofs.Common.{◌↔◌, ◌⊎◌, List, subst, inl, inr}
use Rattle.std.proofs.lemmas.List.{take_all}
use Rattle.auto_table.specs.declared.rule.Rule.{Rule}
use Rattle.lists.specs.Lists.{Has}
use Rattle.rule_cells.proofs.Differing.{rules_more}
use Rattle.rule_cells.proofs.followed.parted.Goals as goal

pub loop-i-init : goal.loop-i-init
loop-i-init g c = rw (c.new-stay.ensures.items, c.new-over.ensures.items) (λ r. ((λ has. elim has [ inl a ↦ cc a.1 | inr b ↦ cc b.1 ]), (λ has. cc has.1)))

pub loop-i-preserved : goal.loop-i-preserved
loop-i-preserved g c =
    rules_more c.args.rules.now (λ r. Has c.loop-i.stay.items r ⊎ Has c.loop-i.over.items r) (λ r. Has c.put_in.new.stay.items r ⊎ Has c.put_in.new.over.items r) c.loop-i.i
    c.index-rules-i.result c.loop-i-test.true c.index-rules-i.is c.loop-i.invariant c.in_ok-put_in.ensures

pub returns : goal.returns
returns g c = λ r. subst (λ (rs : List (Rule g.row.W.Denot)). (Has c.loop-i.stay.items r ⊎ Has c.loop-i.over.items r) ↔ Has rs r)
    (take_all c.loop-i.i c.args.rules.now c.loop-i-test.false) (c.loop-i.invariant r)
