-- What a path of fields from a local leads to, and what that says of runs. Sites are followed from store to store over one demand: this rule is the
-- project's own.
use Rattle.std.specs.Prelude.{◌≡◌, ◌↔◌, ℕ, ◌⊎◌, List, [], ◌∷◌, Some, slice_get}
use Rattle.lists.specs.Lists.{Has, Counts, HasMore}
use Rattle.link_rules.specs.Linked.{LinkedProgram}
use Rattle.link_sites.specs.declared.place.Place.{Place}
use Rattle.link_sites.specs.declared.site.Site.{Site}
use Rattle.link_sites.specs.Sites.{HasField}
use Rattle.spds_rules.specs.declared.node.Node.{Node}
use Rattle.spds_rules.specs.declared.node.Var.TheVariants.{Local}
use Rattle.spds_rules.specs.declared.reach.Reach.TheVariants.{Plain}
use Rattle.spds_rules.specs.declared.store.StoreAt.{StoreAt}
use Rattle.spds_rules.specs.Answers.{AreSites, IsAnswered}
use Rattle.spds_rules.specs.Demand.{Asked, Demand}
use Rattle.spds_rules.specs.Nodes.{at}
use Rattle.spds_rules.specs.Stores.{IsStore}
use Rattle.spds_rules.specs.Systems.{Calls}
use Rattle.demand_set.specs.Walks.{HasAtMost}
use Rattle.step_rules.specs.declared.parts.Slot.TheVariants as slot
use Rattle.step_rules.specs.Runs.{Run}
use Rattle.step_rules.specs.Slots.{Path}
use Rattle.step_rules.specs.States.{HeapObject, State, place_of}

-- an end of a store of the field: what is stored, or what it is stored into
pub record IsEndOf (p : LinkedProgram) (field : ℕ) (n : Node) : Type 0 where
  pub store : StoreAt
  pub is_store : IsStore p store
  pub of_field : store.field ≡ field
  pub is_end : (n ≡ store.base) ⊎ (n ≡ store.arg)

-- a query of the node and of both ends of each store of each of the fields, in whatever order. It needs no back edges
pub record AsksPath (p : LinkedProgram) (n : Node) (fields : List ℕ) (q : Asked) : Type 0 where
  pub plain : q.reach ≡ Plain
  pub targets : (m : Node) → Has q.targets m ↔ ((m ≡ n) ⊎ ((field : ℕ) × Has fields field × IsEndOf p field m))

-- an object of the one site may stand in a field of one of the other by the store: both are answered at its ends, under one call string, and the other
-- has the field. Whether the field is demanded doesn't matter
pub record Hops (p : LinkedProgram) (q : Asked) (o base : Site) (s : StoreAt) : Type 0 where
  pub store : IsStore p s
  pub arg : IsAnswered p q s.arg o
  pub owner : IsAnswered p q s.base base
  pub string : List Place
  pub at_arg : Calls p q o s.arg string
  pub at_base : Calls p q base s.base string
  pub has : HasField p base s.field

-- the site is one field behind a site with the fact
pub record IsBehind (p : LinkedProgram) (q : Asked) (P : Site → Type 0) (field : ℕ) (o : Site) : Type 0 where
  pub base : Site
  pub from : P base
  pub store : StoreAt
  pub of_field : store.field ≡ field
  pub hops : Hops p q o base store

-- it is at the end of the fields, one after the other, from a site with the fact
abbrev pub IsBehindAll : LinkedProgram → Asked → (Site → Type 0) → List ℕ → Site → Type 0
IsBehindAll p q P [] o = P o
IsBehindAll p q P (field ∷ rest) o = IsBehindAll p q (IsBehind p q P field) rest o

-- it is at the end of the fields from a site that the node may hold
abbrev pub IsAtPath : LinkedProgram → Asked → Node → List ℕ → Site → Type 0
IsAtPath p q n fields = IsBehindAll p q (IsAnswered p q n) fields

-- the sites at the end of a path, in the order in which they are printed, and how many nodes its query demands
pub record IsPathAnswer (p : LinkedProgram) (n : Node) (fields : List ℕ) (sites : List Site) (demanded : ℕ) : Type 0 where
  pub query : Asked
  pub asks : AsksPath p n fields query
  pub answer : AreSites p (IsAtPath p query n fields) sites
  pub size : Counts (Demand p query) demanded

-- the query of a path demands more nodes than the budget allows
abbrev pub IsPathOver : LinkedProgram → Node → List ℕ → ℕ → Type 0
IsPathOver p n fields budget = (q : Asked) × AsksPath p n fields q × HasMore (Demand p q) budget

-- it demands no more
abbrev pub IsPathAffordable : LinkedProgram → Node → List ℕ → ℕ → Type 0
IsPathAffordable p n fields budget = (q : Asked) × AsksPath p n fields q × HasAtMost (Demand p q) budget

-- In each run, of any length: where a frame, the top one or one that waits, stands at the node's place and the fields lead from what its local holds to an
-- object, the object's site is in the list.
abbrev pub LeadsAllRuns : LinkedProgram → Node → List ℕ → List Site → Type 0
LeadsAllRuns p n fields sites = (count : ℕ) (s : State) (number x o : ℕ) → Run p count s → (path : Path s number (slot.Local x) fields o)
    → n ≡ at (place_of path.frame) (Local x) → (object : HeapObject) × (slice_get s.heap o ≡ Some object) × Has sites object.site
