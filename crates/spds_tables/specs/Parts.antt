-- What the systems of all sites share, and the rules and starts of one.
use Rattle.std.specs.Prelude.{◌≡◌, ◌<◌, ◌==◌, ℕ, ◌++◌, List, [], if◌then◌else◌, length, map, slice_index_or}
use Rattle.std.specs.List.{flat_map}
use Rattle.auto_table.specs.declared.rule.Rule.{Rule}
use Rattle.auto_table.specs.declared.rule.Rule.TheVariants.{Push}
use Rattle.lists.specs.Lists.{Has}
use Rattle.lists.specs.Filings.{row}
use Rattle.post_star.specs.declared.bases.Start.{Start}
use Rattle.post_star.specs.Derivations.{IsLed, Leads}
use Rattle.spds_tables.specs.declared.numbered.Jump.{Jump}
use Rattle.spds_tables.specs.declared.numbered.Met.{Met}
use Rattle.spds_tables.specs.declared.numbered.StartAt.{StartAt}
use Rattle.rule_cells.specs.Renamed.{number_in}
use Rattle.spds_tables.specs.declared.numbered.CellsAt.{CellsAt}
use Rattle.spds_tables.specs.declared.numbered.StoreNodes.{StoreNodes}
use Rattle.spds_tables.specs.declared.numbered.Stored.{Stored}
use Rattle.spds_tables.specs.declared.parts.Parts.{Parts}
use Rattle.weight_laws.specs.declared.reach.Reach.{Reach}
use Rattle.weight_laws.specs.Reach.{reach_domain}

-- the start nodes of all sites
abbrev pub start_rows : Parts → List (List StartAt)
start_rows parts = map (λ starts. starts.items) parts.starts.items

-- those of a site
abbrev pub starts_at : Parts → ℕ → List StartAt
starts_at parts site = row (start_rows parts) site

-- what a number past the end reads
abbrev pub no_store : StoreNodes
no_store = record { base = 0; arg = 0; field = 0 }

-- the nodes and the field of the store with the number
abbrev pub store_nodes_at : Parts → ℕ → StoreNodes
store_nodes_at parts store = slice_index_or parts.stores.items store no_store

-- the cells of a node
abbrev pub field_cell : Parts → ℕ → ℕ
field_cell parts node = number_in parts.field_cells.items node

abbrev pub call_cell : Parts → ℕ → ℕ
call_cell parts node = number_in parts.call_cells.items node

abbrev pub cells_at : Parts → ℕ → CellsAt
cells_at parts node = record { fields = field_cell parts node; calls = call_cell parts node }

-- the store with the number, by cells
abbrev pub store_at : Parts → ℕ → Stored
store_at parts store = record {
  base = cells_at parts (store_nodes_at parts store).base;
  arg = cells_at parts (store_nodes_at parts store).arg;
  field = (store_nodes_at parts store).field;
}

-- a start node of a field system, with the empty word
abbrev pub field_start : List ℕ → StartAt → Start Reach
field_start cells s = record { base = 0; node = number_in cells s.node; weight = reach_domain.one }

-- a start node of a call system, with the strings of its method
abbrev pub call_start : List ℕ → StartAt → Start Reach
call_start cells s = record { base = s.method; node = number_in cells s.node; weight = reach_domain.one }

-- the rule of a store that comes to a start node
abbrev pub push_to : List ℕ → StoreNodes → StartAt → Rule Reach
push_to cells store s = Push (number_in cells store.arg) (number_in cells s.node) store.field reach_domain.one

-- the rules of a meet, one for each start node of the base
abbrev pub pushes_of : Parts → Met → List (Rule Reach)
pushes_of parts m = map (push_to parts.field_cells.items (store_nodes_at parts m.store)) (starts_at parts m.base)

-- those that the field system of a site has
abbrev pub pushes_for : Parts → ℕ → Met → List (Rule Reach)
pushes_for parts site m = if m.object == site then pushes_of parts m else []

-- those of a list of meets
abbrev pub pushes_over : Parts → ℕ → List Met → List (Rule Reach)
pushes_over parts site mets = flat_map (pushes_for parts site) mets

-- the nodes that may come to be start nodes of a call system: those of sites, and those that static fields come to
abbrev pub candidates : Parts → List StartAt
candidates parts = flat_map (λ starts. starts) (start_rows parts) ++ map (λ jump. jump.to) parts.jumps.items

-- the numbers of the start nodes of all sites
abbrev pub start_nodes : List (List StartAt) → List ℕ
start_nodes rows = flat_map (λ starts. map (λ s. s.node) starts) rows

-- and of the nodes that static fields come to
abbrev pub open_nodes : List (List StartAt) → List Jump → List ℕ
open_nodes rows jumps = start_nodes rows ++ map (λ jump. jump.to.node) jumps

-- the strings of each of these lead to the last base, and so do those of the bases
pub record AreLedIn (parts : Parts) : Type 0 where
  pub bases : IsLed {W = Reach} [] parts.bases.steps parts.bases.last
  pub starts : (s : StartAt) → Has (candidates parts) s → (word : List ℕ) × Leads parts.bases.steps s.method word parts.bases.last
  pub field_steps : parts.fields.value.steps ≡ []
  pub field_last : parts.fields.value.last ≡ 0
  pub call_steps : parts.calls.value.steps ≡ parts.bases.steps
  pub call_last : parts.calls.value.last ≡ parts.bases.last

-- the sites and the store of a meet are there
pub record IsInParts (parts : Parts) (m : Met) : Type 0 where
  pub object : m.object < length parts.starts.items
  pub base : m.base < length parts.starts.items
  pub store : m.store < length parts.stores.items
