-- The sites that come to cells.
use Rattle.std.specs.Prelude.{◌↔◌, ℕ, eqb}
use Rattle.lists.specs.Lists.{Has}
use Rattle.lists.specs.declared.groups.Keyed.{Keyed}
use Rattle.lists.specs.Groups.{found_at}
use Rattle.spds_solve.specs.declared.arrivals.Arrival.{Arrival}
use Rattle.spds_solve.specs.declared.holders.Holders.{Holders}
use Rattle.spds_solve.specs.Solved.{SolvedParts}

-- the site under its cell
abbrev pub keyed_by_cell : Arrival → Keyed ℕ ℕ
keyed_by_cell a = record { key = a.cell; item = a.site }

-- under each cell there are the sites that come to it
abbrev pub AreHolders : SolvedParts → Holders → Type 0
AreHolders s h = (cell site : ℕ) → Has (found_at eqb h.sites cell) site ↔ Has s.arrivals (record { site = site; cell = cell })
