use Rattle.std.proofs.Common.{List, ℕ, subst}
use Rattle.rule_cells.specs.Renamed.{HaveNumbersTo}
use Rattle.rule_cells.proofs.Numbering.{numbered}
use Rattle.rule_cells.proofs.numbers.number_heads.Goals as goal

pub returns : goal.returns
returns g c =
    let d = g.W.Weight.domain in
    let cells = c.args.cells.now in
    let own = c.in_ok-listed.listed.numbers.items in
    let numbers = c.in_ok-numbers.numbers.items in
    numbered d cells c.args.count c.in_ok-listed.listed.heads.items own numbers c.requires.count c.requires.own c.in_ok-listed.ensures
    (subst (λ (xs : List ℕ). HaveNumbersTo d cells xs c.args.count numbers) c.deref.ensures.value c.in_ok-numbers.ensures)
