use Rattle.std.proofs.Common.{◌≡◌, ◌↔◌, ◌⊎◌, take}
use Rattle.lists.specs.Lists.{Has}
use Rattle.spds_solve.specs.declared.arrivals.Arrival.{Arrival}
use Rattle.spds_solve.proofs.solver.add_arrivals.Given as goal

abbrev pub invariant-loop-cell : goal.invariant-loop-cell
invariant-loop-cell l = (h : Arrival) → Has l.arrivals h ↔ (Has l.initial.arrivals h ⊎ ((h.site ≡ l.site) × Has (take l.cell-index l.cells) h.cell))
