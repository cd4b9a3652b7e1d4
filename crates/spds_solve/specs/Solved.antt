-- What was solved: the meets, the answers, and the call systems of the sites.
use Rattle.std.specs.Prelude.{◌≡◌, ◌↔◌, ℕ, List, Some, slice_get, take, true}
use Rattle.call_side.specs.Bases.{AreMarks}
use Rattle.call_side.specs.Indexed.{BaseList}
use Rattle.demand_set.specs.Demands.{DemandParts}
use Rattle.lists.specs.Lists.{Has, IsApart}
use Rattle.link_rules.specs.Linked.{LinkedProgram}
use Rattle.link_sites.specs.declared.place.Place.{Place}
use Rattle.link_sites.specs.declared.site.Site.{Site}
use Rattle.post_star.specs.Jobs.{Job}
use Rattle.rule_cells.specs.Renamed.{number_in}
use Rattle.spds_rules.specs.declared.node.Node.{Node}
use Rattle.spds_rules.specs.declared.store.StoreAt.{StoreAt}
use Rattle.spds_rules.specs.Demand.{Asked}
use Rattle.spds_rules.specs.Systems.{Calls, Fields, Meets, StoresUnder}
use Rattle.spds_solve.specs.declared.arrivals.Arrival.{Arrival}
use Rattle.spds_solve.specs.declared.met.Met.{Met}
use Rattle.spds_solve.specs.Mets.{numbers_of}
use Rattle.spds_tables.specs.declared.numbered.Met.{Met as Numbers}
use Rattle.spds_tables.specs.declared.tables.SiteTables.{SiteTables}
use Rattle.spds_tables.specs.Systems.{Reaches}
use Rattle.weight_laws.specs.declared.reach.Reach.{Reach}

-- the cells of the nodes in both kinds of systems, the calls whose numbers are the marks of call strings, the systems of the sites, the meets, and the cells
-- of call systems at which objects of sites may be
pub record SolvedParts : Type 0 where
  pub field_cells : List ℕ
  pub call_cells : List ℕ
  pub places : List Place
  pub fields : List (Job Reach)
  pub calls : List (Job Reach)
  pub mets : List Met
  pub arrivals : List Arrival

-- settled tables, whose call system is over these base steps
pub record IsOfBases (bases : BaseList) (t : SiteTables) : Type 0 where
  pub fields : t.fields.settled ≡ true
  pub fields_last : t.fields.last ≡ 0
  pub calls : t.calls.settled ≡ true
  pub steps : t.calls.steps ≡ bases.steps
  pub last : t.calls.last ≡ bases.last

-- each is so
abbrev pub AreOfBases : BaseList → List SiteTables → Type 0
AreOfBases bases tables = (t : SiteTables) → Has tables t → IsOfBases bases t

-- the numbers of a meet stand for these sites and this store of the demand
pub record StandsForMeet (d : DemandParts) (met : Met) (o base : Site) (s : StoreAt) : Type 0 where
  pub object_is : slice_get d.sites met.object ≡ Some o
  pub base_is : slice_get d.sites met.base ≡ Some base
  pub store_is : slice_get d.stores met.store ≡ Some s

-- some meet of the list stands for them
abbrev pub IsListed : DemandParts → List Met → Site → Site → StoreAt → Type 0
IsListed d mets o base s = (met : Met) × Has mets met × StandsForMeet d met o base s

-- the meet may be stored under its string over those before it
pub record RestsOn (p : LinkedProgram) (q : Asked) (d : DemandParts) (before : List Met) (met : Met) : Type 0 where
  pub object : Site
  pub base : Site
  pub store : StoreAt
  pub stands : StandsForMeet d met object base store
  pub stores : StoresUnder p q (IsListed d before) object base store met.string

-- the meets of the demand, each once, and each resting on those before it
pub record AreMeets (p : LinkedProgram) (q : Asked) (d : DemandParts) (mets : List Met) : Type 0 where
  pub exact : (o base : Site) (s : StoreAt) → IsListed d mets o base s ↔ Meets p q o base s
  pub once : IsApart (numbers_of mets)
  pub rests : (i : ℕ) (met : Met) → slice_get mets i ≡ Some met → RestsOn p q d (take i mets) met

-- the field system gives, at the cell of a node, the words of fields that lead from the node to objects of the site
abbrev pub SpellsFields : LinkedProgram → Asked → DemandParts → SolvedParts → Site → Job Reach → Type 0
SpellsFields p q d s o job = (number : ℕ) (n : Node) (word : List ℕ) → slice_get d.nodes number ≡ Some n
    → Reaches job (number_in s.field_cells number) word ↔ Fields p q o n word

-- the call system gives, at the cell of a node, the marks of the call strings under which an object of the site may be at the node, and no other word
pub record SpellsCalls (p : LinkedProgram) (q : Asked) (d : DemandParts) (s : SolvedParts) (o : Site) (job : Job Reach) : Type 0 where
  pub strings : (number : ℕ) (n : Node) (word : List ℕ) (string : List Place) → slice_get d.nodes number ≡ Some n → AreMarks s.places word string
      → Reaches job (number_in s.call_cells number) word ↔ Calls p q o n string
  pub marked : (n : Node) (string : List Place) → Calls p q o n string → (word : List ℕ) × AreMarks s.places word string
  pub spelt : (number : ℕ) (word : List ℕ) → Reaches job (number_in s.call_cells number) word → (string : List Place) × AreMarks s.places word string

-- these are the meets of the demand, both systems of its sites, and where call strings are
pub record IsSolved (p : LinkedProgram) (q : Asked) (d : DemandParts) (s : SolvedParts) : Type 0 where
  pub mets : AreMeets p q d s.mets
  pub numbered : (m : Numbers) (o base : Site) (store : StoreAt) → slice_get d.sites m.object ≡ Some o → slice_get d.sites m.base ≡ Some base
      → slice_get d.stores m.store ≡ Some store → Has (numbers_of s.mets) m ↔ Meets p q o base store
  pub fields : (site : ℕ) (o : Site) → slice_get d.sites site ≡ Some o → (job : Job Reach) × (slice_get s.fields site ≡ Some job) × SpellsFields p q d s o job
  pub calls : (site : ℕ) (o : Site) → slice_get d.sites site ≡ Some o → (job : Job Reach) × (slice_get s.calls site ≡ Some job) × SpellsCalls p q d s o job
  pub arrived : (a : Arrival) (o : Site) (number : ℕ) (n : Node) → slice_get d.sites a.site ≡ Some o → slice_get d.nodes number ≡ Some n
      → a.cell ≡ number_in s.call_cells number → Has s.arrivals a ↔ ((string : List Place) × Calls p q o n string)
