-- The tables of a site, and the start nodes that they ask for.
use Rattle.std.specs.Prelude.{◌≡◌, ◌⊎◌, ◌↔◌, ◌++◌, ℕ, List, [], IsTrue, true, map}
use Rattle.auto_table.specs.declared.rule.Rule.{Rule}
use Rattle.lists.specs.Lists.{Has, IsApart}
use Rattle.post_star.specs.declared.bases.Start.{Start}
use Rattle.post_star.specs.Jobs.{Job}
use Rattle.rule_cells.specs.Renamed.{number_in}
use Rattle.spds_tables.specs.declared.numbered.Jump.{Jump}
use Rattle.spds_tables.specs.declared.numbered.Met.{Met}
use Rattle.spds_tables.specs.declared.numbered.StartAt.{StartAt}
use Rattle.spds_tables.specs.declared.parts.Parts.{Parts}
use Rattle.spds_tables.specs.declared.tables.SiteTables.{SiteTables}
use Rattle.spds_tables.specs.Parts.{call_start, field_start, pushes_over, starts_at, store_at}
use Rattle.spds_tables.specs.Systems.{Reaches}
use Rattle.weight_laws.specs.declared.reach.Reach.{Reach}

-- rules and starts were put in
pub record AreAdded (rules : List (Rule Reach)) (starts : List (Start Reach)) (old new : Job Reach) : Type 0 where
  pub steps : new.steps ≡ old.steps
  pub last : new.last ≡ old.last
  pub rules_are : new.rules ≡ old.rules ++ rules
  pub starts_are : new.starts ≡ old.starts ++ starts

-- the field system of a site over these meets
pub record IsFieldJob (parts : Parts) (site : ℕ) (mets : List Met) (job : Job Reach) : Type 0 where
  pub steps : job.steps ≡ []
  pub last : job.last ≡ 0
  pub rules : job.rules ≡ parts.fields.value.rules ++ pushes_over parts site mets
  pub starts : job.starts ≡ map (field_start parts.field_cells.items) (starts_at parts site)

-- the call system from these start nodes
pub record IsCallJob (parts : Parts) (begun : List StartAt) (job : Job Reach) : Type 0 where
  pub steps : job.steps ≡ parts.bases.steps
  pub last : job.last ≡ parts.bases.last
  pub rules : job.rules ≡ parts.calls.value.rules
  pub starts : job.starts ≡ map (call_start parts.call_cells.items) begun

-- a call system gives some string there
abbrev pub ArrivesAt : Job Reach → ℕ → Type 0
ArrivesAt job node = (word : List ℕ) × Reaches job node word

-- these are the cells at which the call system gives some string
abbrev pub AreArrivals : Job Reach → List ℕ → Type 0
AreArrivals job nodes = (n : ℕ) → Has nodes n ↔ ArrivesAt job n

-- a static field comes to the node, where nodes have these cells
pub record IsJumpedTo (cells : List ℕ) (jumps : List Jump) (job : Job Reach) (s : StartAt) : Type 0 where
  pub jump : Jump
  pub has : Has jumps jump
  pub to_is : s ≡ jump.to
  pub arrives : ArrivesAt job (number_in cells jump.from)

-- a store of the site comes to the node
pub record IsStoredTo (parts : Parts) (site : ℕ) (mets : List Met) (job : Job Reach) (s : StartAt) : Type 0 where
  pub met : Met
  pub has : Has mets met
  pub object : met.object ≡ site
  pub arrives : ArrivesAt job (store_at parts met.store).arg.calls
  pub among : Has (starts_at parts met.base) s

-- what static fields and stores come to, where the call system arrives
abbrev pub IsAskedOf : Parts → ℕ → List Met → Job Reach → StartAt → Type 0
IsAskedOf parts site mets job s = IsJumpedTo parts.call_cells.items parts.jumps.items job s ⊎ IsStoredTo parts site mets job s

-- the start nodes that a site comes to have, by and by: its own, and what the call system from some of them asks for
pub data Opens (parts : Parts) (site : ℕ) (mets : List Met) : StartAt → Type 0 where
  own : {s : StartAt} → Has (starts_at parts site) s → Opens parts site mets s
  asked : {s : StartAt} (begun : List StartAt) (job : Job Reach) → IsCallJob parts begun job → ((x : StartAt) → Has begun x → Opens parts site mets x)
      → IsAskedOf parts site mets job s → Opens parts site mets s

-- the tables have come to the end for the meets that they have taken in: no start node is missing
pub record AreDone (parts : Parts) (site : ℕ) (t : SiteTables) : Type 0 where
  pub fields : t.fields.settled ≡ true
  pub calls : t.calls.settled ≡ true
  pub closed : (s : StartAt) → IsAskedOf parts site t.mets.items t.calls s → Has t.begun s

-- the start nodes of the bases of these meets of the site are ones that it comes to have over all meets
abbrev pub AreOpenFor : Parts → ℕ → List Met → List Met → Type 0
AreOpenFor parts site mets all = (m : Met) → Has mets m → m.object ≡ site → (s : StartAt) → Has (starts_at parts m.base) s → Opens parts site all s

-- the tables are of the systems over these meets, from start nodes that the site comes to have over all meets: its own and those of the bases among them
pub record AreBuiltWithin (parts : Parts) (site : ℕ) (mets all : List Met) (t : SiteTables) : Type 0 where
  pub fields : IsFieldJob parts site mets t.fields
  pub calls : IsCallJob parts t.begun t.calls
  pub opened : (s : StartAt) → Has t.begun s → Opens parts site all s
  pub own : (s : StartAt) → Has (starts_at parts site) s → Has t.begun s
  pub stored : (m : Met) → Has t.mets.items m → (s : StartAt) → Has (starts_at parts m.base) s → Has t.begun s
  pub apart : IsApart t.begun
  pub own_mets : (m : Met) → Has t.mets.items m ↔ (Has mets m × (m.object ≡ site))
  pub done : IsTrue t.done → AreDone parts site t

-- and these are all meets
abbrev pub AreBuilt : Parts → ℕ → List Met → SiteTables → Type 0
AreBuilt parts site mets t = AreBuiltWithin parts site mets mets t

-- and they have come to the end: no start node is missing
pub record AreSettled (parts : Parts) (site : ℕ) (mets : List Met) (t : SiteTables) : Type 0 where
  pub built : AreBuilt parts site mets t
  pub fields : t.fields.settled ≡ true
  pub calls : t.calls.settled ≡ true
  pub closed : (s : StartAt) → IsAskedOf parts site mets t.calls s → Has t.begun s

-- a table was brought to the end
abbrev pub settled_of : Job Reach → Job Reach
settled_of job = record job { settled = true }

-- both were
abbrev pub settled_tables : SiteTables → SiteTables
settled_tables t = record t { fields = settled_of t.fields; calls = settled_of t.calls }
