use Rattle.std.proofs.Common.{◌≡◌, ℕ, List, length, sym, ◌∙◌, subst}
use Rattle.rule_cells.specs.declared.cells.Cell.{Cell}
use Rattle.rule_cells.specs.Forests.{IsConverged}
use Rattle.rule_cells.specs.Made.{cell_at, own_cell}
use Rattle.rule_cells.proofs.Entering.{returned}
use Rattle.rule_cells.proofs.Rooting.{own_everywhere}
use Rattle.rule_cells.proofs.cells.made.Goals as goal

pub returns : goal.returns
returns g c = λ rules kept told are.
    let d = g.W.Weight.domain in
    let cells = c.in_ok-cells.cells.items in
    let new = c.converge.new.cells in
    let own = subst (λ (cs : List (Cell g.row.W.Denot)). (n : ℕ) → cell_at d cs n ≡ own_cell d n) (sym c.deref_mut.ensures.value)
    (own_everywhere d cells c.in_ok-cells.ensures.own) in
    let many : c.in_ok-cells.cells.len ≡ length new = sym (c.converge.auto.cells ∙ c.deref_mut.ensures.len) in
    subst (λ (cs : List (Cell g.row.W.Denot)). IsConverged d c.args.count rules kept cs) (sym (returned c.in_ok-cells.cells.len new cells many))
    (c.converge.ensures rules kept told are own)
