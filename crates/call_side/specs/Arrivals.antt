-- The nodes of a table that some word is at.
use Rattle.std.specs.Prelude.{◌≢◌, ◌<◌, ℕ, List}
use Rattle.auto_table.specs.declared.entry.Entry.{Entry}
use Rattle.auto_table.specs.declared.entry.Entry.TheVariants.{Base, Pushed}
use Rattle.auto_table.specs.Cells.{Cells, link_at, weight_at}
use Rattle.lists.specs.Lists.{Has}
use Rattle.post_star.specs.Readings.{ReadsAny, ReadsAnyAt}
use Rattle.weight_laws.specs.declared.reach.Reach.{Reach}
use Rattle.weight_laws.specs.Reach.{reach_domain}

-- links lead from the entry to a base
abbrev pub IsLive : Cells Reach → Entry → Type 0
IsLive t entry = ReadsAny reach_domain t entry reach_domain.one

-- each of the entries leads to a base
abbrev pub AreLive : Cells Reach → List Entry → Type 0
AreLive t entries = (entry : Entry) → Has entries entry → IsLive t entry

-- the entry is a base, or has a link to one of the entries
abbrev pub GoesDown : Cells Reach → List Entry → Entry → Type 0
GoesDown t live (Base base) = Unit {0}
GoesDown t live (Pushed node mark) = (parent : Entry) × (link_at reach_domain t (Pushed node mark) parent ≢ reach_domain.zero) × Has live parent

-- some word is read at the node
abbrev pub IsReadAt : Cells Reach → ℕ → Type 0
IsReadAt t node = ReadsAnyAt reach_domain t node reach_domain.one

-- the entry has a weight at the node, which is one of so many
abbrev pub HasOwn : ℕ → Cells Reach → Entry → ℕ → Type 0
HasOwn count t entry node = (weight_at reach_domain t entry node ≢ reach_domain.zero) × (node < count)
