-- What is followed on the way, by numbers.
use Rattle.std.specs.Prelude.{◌≡◌, ◌↔◌, ◌<◌, ℕ, List, AllPairs, Some, slice_get}
use Rattle.lists.specs.Lists.{Has}
use Rattle.link_rules.specs.Linked.{LinkedProgram}
use Rattle.link_sites.specs.declared.place.Place.{Place}
use Rattle.link_sites.specs.declared.site.Site.{Site}
use Rattle.link_sites.specs.Sites.{HasField}
use Rattle.spds_rules.specs.declared.node.Node.{Node}
use Rattle.spds_rules.specs.declared.store.StoreAt.{StoreAt}
use Rattle.spds_rules.specs.Answers.{IsAnswered}
use Rattle.spds_rules.specs.Demand.{Asked}
use Rattle.spds_rules.specs.Systems.{Calls}
use Rattle.demand_set.specs.Demands.{DemandParts, IsDemandOf}
use Rattle.spds_solve.specs.Solved.{IsSolved, SolvedParts}
use Rattle.path_query.specs.declared.hops.Way.{Way}

-- the query's demand, solved
pub record IsPosed (p : LinkedProgram) (q : Asked) (d : DemandParts) (s : SolvedParts) : Type 0 where
  pub demand : IsDemandOf p q d
  pub solved : IsSolved p q d s

-- the numbers of the sites of a list that have the fact, ascending
pub record AreNumbersOf (sites : List Site) (P : Site → Type 0) (numbers : List ℕ) : Type 0 where
  pub each : (k : ℕ) → Has numbers k ↔ ((o : Site) × (slice_get sites k ≡ Some o) × P o)
  pub ordered : AllPairs (λ a b. a < b) numbers

-- the site has one of the numbers
abbrev pub IsAmong : List Site → List ℕ → Site → Type 0
IsAmong sites numbers o = (k : ℕ) × Has numbers k × (slice_get sites k ≡ Some o)

-- a way over the store, from one of the owners: it may be at the store's base, and has the field
pub record IsWay (p : LinkedProgram) (q : Asked) (d : DemandParts) (owners : List ℕ) (s : StoreAt) (w : Way) : Type 0 where
  pub arg_is : slice_get d.nodes w.arg ≡ Some s.arg
  pub base_is : slice_get d.nodes w.base ≡ Some s.base
  pub from : Has owners w.owner
  pub site : Site
  pub site_is : slice_get d.sites w.owner ≡ Some site
  pub there : IsAnswered p q s.base site
  pub has : HasField p site s.field

-- a way over one of the stores
abbrev pub IsWayIn : LinkedProgram → Asked → DemandParts → List ℕ → List StoreAt → Way → Type 0
IsWayIn p q d owners stores w = (s : StoreAt) × Has stores s × IsWay p q d owners s w

-- the numbers of a way name nodes and a site
pub record IsNamed (d : DemandParts) (w : Way) : Type 0 where
  pub arg : Node
  pub arg_is : slice_get d.nodes w.arg ≡ Some arg
  pub base : Node
  pub base_is : slice_get d.nodes w.base ≡ Some base
  pub owner : Site
  pub owner_is : slice_get d.sites w.owner ≡ Some owner

-- the way leads to the site: it may be at the argument, under a call string under which the owner may be at the base
pub record LeadsTo (p : LinkedProgram) (q : Asked) (d : DemandParts) (o : Site) (w : Way) : Type 0 where
  pub named : IsNamed d w
  pub there : IsAnswered p q named.arg o
  pub string : List Place
  pub at_arg : Calls p q o named.arg string
  pub at_base : Calls p q named.owner named.base string

-- one of the ways does
abbrev pub IsLedTo : LinkedProgram → Asked → DemandParts → List Way → Site → Type 0
IsLedTo p q d ways o = (w : Way) × Has ways w × LeadsTo p q d o w
