-- The entries of a table by the nodes at which they have a weight.
use Rattle.std.specs.Prelude.{◌≡◌, ◌≢◌, ◌↔◌, ℕ, List, eqb}
use Rattle.auto_table.specs.declared.entry.Entry.{Entry}
use Rattle.auto_table.specs.Cells.{AreMeant, Cells, weight_at}
use Rattle.lists.specs.Lists.{Has}
use Rattle.lists.specs.declared.groups.Keyed.{Keyed}
use Rattle.lists.specs.Groups.{Grouped, found_at}
use Rattle.weight_laws.specs.declared.rel.Rel.{Rel}
use Rattle.weight_laws.specs.Rel.{rel_domain}

-- the entry has a weight at the node
abbrev pub IsCell : Cells Rel → Keyed ℕ Entry → Type 0
IsCell t cell = weight_at rel_domain t cell.item cell.key ≢ rel_domain.zero

-- this entry has
abbrev pub IsCellOf : Cells Rel → Entry → Keyed ℕ Entry → Type 0
IsCellOf t entry cell = (cell.item ≡ entry) × IsCell t cell

-- each entry with each node at which it has a weight
abbrev pub AreCells : Cells Rel → List (Keyed ℕ Entry) → Type 0
AreCells t cells = (cell : Keyed ℕ Entry) → Has cells cell ↔ IsCell t cell

-- under each node are the entries that have a weight there; all weights are meant
pub record AreByNode (t : Cells Rel) (entries : Grouped ℕ Entry) : Type 0 where
  pub meant : AreMeant rel_domain t
  pub each : (node : ℕ) (entry : Entry) → Has (found_at eqb entries node) entry ↔ (weight_at rel_domain t entry node ≢ rel_domain.zero)
