use Rattle.std.proofs.Common.{◌≡◌, ◌<◌, ◌↔◌, Some, slice_get}
use Rattle.lists.specs.Lists.{Has}
use Rattle.spds_solve.specs.declared.arrivals.Arrival.{Arrival}
use Rattle.spds_solve.proofs.solver.all_arrivals.Given as goal
use Rattle.spds_tables.specs.declared.tables.SiteTables.{SiteTables}
use Rattle.spds_tables.specs.Tables.{ArrivesAt}

abbrev pub invariant-loop-site : goal.invariant-loop-site
invariant-loop-site l = (h : Arrival) → Has l.arrivals h ↔ ((h.site < l.site) × (t : SiteTables) × (slice_get l.tables h.site ≡ Some t) × ArrivesAt t.calls h.cell)
