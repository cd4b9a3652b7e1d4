use Rattle.std.proofs.Common.{◌∙◌, List, arith, subst, sym}
use Rattle.auto_table.specs.declared.rule.Rule.{Rule}
use Rattle.lists.specs.Lists.{Has}
use Rattle.rule_cells.specs.CellRules.{HaveCells}
use Rattle.rule_cells.proofs.Celling.{cells_weigh_one, have_cells}
use Rattle.rule_cells.proofs.Differing.{cells_same}
use Rattle.rule_cells.proofs.between.cell_rules.Goals as goal

pub distinct-requires : goal.distinct-requires
distinct-requires g c =
    let made = c.in_ok-made.made.cells.items in
    let many = c.in_ok-made.ensures.count in
    let numbers = c.in_ok-numbers.numbers in
    let ones = cells_weigh_one g.met.W.Weight.laws c.args.rules.now c.in_ok-few.few.rules.items c.args.kept.now made numbers.heads.items numbers.numbers.items c.requires.ones
    c.in_ok-made.ensures.cells (λ n low. omega (arith, many, c.in_ok-made.ensures.within n (omega (arith, many, low)))) (rw c.deref.ensures.value at c.in_ok-few.ensures.rules)
    (rw c.deref-2.ensures.value at c.in_ok-numbers.ensures) in
    let is = rw (c.deref-3.ensures.value, c.deref-4.ensures.value) at c.in_ok-between.ensures in
    record { ones = λ r has. ones r (subst (λ (rs : List (Rule g.row.W.Denot)). Has rs r) (c.deref-5.ensures.value ∙ is) has) }

pub returns-clause-count : goal.returns-clause-count
returns-clause-count g c = (rw c.deref-2.ensures.value at c.in_ok-numbers.ensures).many ∙ c.in_ok-made.ensures.count

pub returns-clause-same : goal.returns-clause-same
returns-clause-same g c =
    let d = g.W.Weight.domain in
    let made = c.in_ok-made.made.cells.items in
    let many = c.in_ok-made.ensures.count in
    let numbers = c.in_ok-numbers.numbers in
    let have = have_cells g.met.W.Weight.laws c.args.rules.now c.in_ok-few.few.rules.items c.args.kept.now made numbers.heads.items numbers.numbers.items c.requires.ones
    c.in_ok-made.ensures.cells (λ n low. omega (arith, many, c.in_ok-made.ensures.within n (omega (arith, many, low)))) (rw c.deref.ensures.value at c.in_ok-few.ensures.rules)
    (rw c.deref-2.ensures.value at c.in_ok-numbers.ensures) in
    let is = rw (c.deref-3.ensures.value, c.deref-4.ensures.value) at c.in_ok-between.ensures in
    let all = subst (λ (rs : List (Rule g.row.W.Denot)). HaveCells d c.args.rules.now c.args.kept.now numbers.numbers.items rs) (sym (c.deref-5.ensures.value ∙ is)) have in
    cells_same d c.args.rules.now c.args.kept.now numbers.numbers.items _ c.deref-5.result.now c.in_ok-distinct.ensures all
