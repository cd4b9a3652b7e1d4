-- The ends of stores.
use Rattle.std.specs.Prelude.{◌≡◌, ◌↔◌, ◌<◌, ℕ, List, eqb, length}
use Rattle.lists.specs.Lists.{Has}
use Rattle.lists.specs.declared.groups.Keyed.{Keyed}
use Rattle.lists.specs.Groups.{found_at}
use Rattle.spds_solve.specs.declared.ends.End.{End}
use Rattle.spds_solve.specs.declared.ends.End.TheVariants.{Arg, Base}
use Rattle.spds_solve.specs.declared.ends.Ends.{Ends}
use Rattle.spds_solve.specs.declared.ends.StoreEnd.{StoreEnd}
use Rattle.spds_tables.specs.declared.numbered.Stored.{Stored}
use Rattle.spds_tables.specs.declared.parts.Parts.{Parts}
use Rattle.spds_tables.specs.Parts.{store_at}

-- the cell of an end of a store in the call system
abbrev pub cell_of : End → Stored → ℕ
cell_of Arg stored = stored.arg.calls
cell_of Base stored = stored.base.calls

-- the end of a store is at the cell
pub record IsEndAt (parts : Parts) (cell : ℕ) (at : StoreEnd) : Type 0 where
  pub store : at.store < length parts.stores.items
  pub cell_is : cell ≡ cell_of at.end (store_at parts at.store)

-- what is listed at the cell
abbrev pub ends_in : Ends → ℕ → List StoreEnd
ends_in ends cell = found_at eqb ends.by_cell cell

-- at each cell exactly its ends are listed
abbrev pub AreEnds : Parts → Ends → Type 0
AreEnds parts ends = (cell : ℕ) (at : StoreEnd) → Has (ends_in ends cell) at ↔ IsEndAt parts cell at

-- the ends of the first stores, with their cells
abbrev pub AreEndsBelow : Parts → ℕ → List (Keyed ℕ StoreEnd) → Type 0
AreEndsBelow parts done ends = (x : Keyed ℕ StoreEnd) → Has ends x ↔ ((x.item.store < done) × (x.key ≡ cell_of x.item.end (store_at parts x.item.store)))
