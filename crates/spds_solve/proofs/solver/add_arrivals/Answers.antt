use Rattle.std.proofs.Common.{◌≡◌, ◌↔◌, ◌⊎◌, ℕ, List, subst, arith}
use Rattle.std.proofs.lemmas.List.{take_all}
use Rattle.lists.specs.Lists.{Has}
use Rattle.spds_solve.specs.declared.arrivals.Arrival.{Arrival}
use Rattle.spds_solve.proofs.Arriving.{cell_more, cells_all}
use Rattle.spds_solve.proofs.solver.add_arrivals.Goals as goal

pub loop-cell-preserved : goal.loop-cell-preserved
loop-cell-preserved c =
    cell_more c.args.arrivals.now c.loop-cell.arrivals c.add.new.self c.args.site c.as_slice-cells.result.now c.loop-cell.cell-index _ (omega arith) c.loop-cell.invariant
    c.in_ok-add.ensures

pub returns : goal.returns
returns c =
    let cells = c.as_slice-cells.result.now in
    let all = subst (λ (xs : List ℕ). (h : Arrival) → Has c.loop-cell.arrivals h ↔ (Has c.args.arrivals.now h ⊎ ((h.site ≡ c.args.site) × Has xs h.cell)))
    (take_all c.loop-cell.cell-index cells (omega arith)) c.loop-cell.invariant in
    cells_all c.args.arrivals.now c.loop-cell.arrivals c.args.site c.args.tables.now cells (rw c.as_slice-cells.ensures.keys c.in_ok-arrived.ensures) all
