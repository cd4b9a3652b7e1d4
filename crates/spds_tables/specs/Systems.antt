-- The two systems of a site as weighted pushdown systems over truth: nodes, fields and calls are numbers, and everything weighs `one`.
use Rattle.std.specs.Prelude.{◌≡◌, ◌↔◌, ℕ, List, [], Some, slice_get}
use Rattle.lists.specs.Lists.{Has}
use Rattle.auto_table.specs.declared.rule.Rule.{Rule}
use Rattle.auto_table.specs.declared.rule.Rule.TheVariants as rule
use Rattle.link_rules.specs.Linked.{LinkedProgram}
use Rattle.link_sites.specs.declared.place.Place.{Place}
use Rattle.link_sites.specs.declared.site.Site.{Site}
use Rattle.call_side.specs.Bases.{AreStrings, IsLast}
use Rattle.post_star.specs.declared.bases.Start.{Start}
use Rattle.post_star.specs.Derivations.{Derives}
use Rattle.post_star.specs.Jobs.{Job}
use Rattle.spds_rules.specs.declared.edge.EdgeKind.{EdgeKind}
use Rattle.spds_rules.specs.declared.edge.EdgeKind.TheVariants as edge
use Rattle.spds_rules.specs.declared.node.Node.{Node}
use Rattle.spds_rules.specs.declared.store.StoreAt.{StoreAt}
use Rattle.spds_rules.specs.Demand.{Asked, EdgeIn, StartIn}
use Rattle.spds_rules.specs.Systems.{KeepsCalls, KeepsFields}
use Rattle.spds_tables.specs.Names.{Names}
use Rattle.weight_laws.specs.declared.reach.Reach.{Reach}
use Rattle.weight_laws.specs.Reach.{reach_domain}

-- an edge of these kinds
pub record IsKept (p : LinkedProgram) (q : Asked) (names : Names) (Keeps : EdgeKind → Type 0) (from to : ℕ) : Type 0 where
  pub source : Node
  pub target : Node
  pub kind : EdgeKind
  pub edge : EdgeIn p q source kind target
  pub keeps : Keeps kind
  pub from_is : slice_get names.nodes from ≡ Some source
  pub to_is : slice_get names.nodes to ≡ Some target

-- an edge that loads the field
pub record IsLoaded (p : LinkedProgram) (q : Asked) (names : Names) (from field to : ℕ) : Type 0 where
  pub source : Node
  pub target : Node
  pub edge : EdgeIn p q source (edge.Load field) target
  pub from_is : slice_get names.nodes from ≡ Some source
  pub to_is : slice_get names.nodes to ≡ Some target

-- a store into the field that an object of the site meets, from what is stored to a start node of the base
pub record IsStored (p : LinkedProgram) (q : Asked) (names : Names) (Meet : Site → Site → StoreAt → Type 0) (o : Site) (from field to : ℕ) : Type 0 where
  pub base : Site
  pub store : StoreAt
  pub target : Node
  pub met : Meet o base store
  pub start : StartIn p q base target
  pub field_is : field ≡ store.field
  pub from_is : slice_get names.nodes from ≡ Some store.arg
  pub to_is : slice_get names.nodes to ≡ Some target

-- an edge of this kind over the call with the mark
pub record IsCrossed (p : LinkedProgram) (q : Asked) (names : Names) (over : Place → EdgeKind) (from mark to : ℕ) : Type 0 where
  pub source : Node
  pub target : Node
  pub call : Place
  pub edge : EdgeIn p q source (over call) target
  pub mark_is : slice_get names.calls mark ≡ Some call
  pub from_is : slice_get names.nodes from ≡ Some source
  pub to_is : slice_get names.nodes to ≡ Some target

-- a rule of the field system of a site over meets: edges keep or load fields, and stores put theirs in front
abbrev pub IsFieldRule : LinkedProgram → Asked → Names → (Site → Site → StoreAt → Type 0) → Site → Rule Reach → Type 0
IsFieldRule p q names Meet o (rule.Flow from to weight) = (weight ≡ reach_domain.one) × IsKept p q names KeepsFields from to
IsFieldRule p q names Meet o (rule.Push from to mark weight) = (weight ≡ reach_domain.one) × IsStored p q names Meet o from mark to
IsFieldRule p q names Meet o (rule.Pop from mark to weight) = (weight ≡ reach_domain.one) × IsLoaded p q names from mark to

-- a rule of the call system: edges keep calls, put one in front or take one off
abbrev pub IsCallRule : LinkedProgram → Asked → Names → Rule Reach → Type 0
IsCallRule p q names (rule.Flow from to weight) = (weight ≡ reach_domain.one) × IsKept p q names KeepsCalls from to
IsCallRule p q names (rule.Push from to mark weight) = (weight ≡ reach_domain.one) × IsCrossed p q names edge.Call from mark to
IsCallRule p q names (rule.Pop from mark to weight) = (weight ≡ reach_domain.one) × IsCrossed p q names edge.Return from mark to

-- a start of the field system: a start node of the site, with the empty word
pub record IsFieldStart (p : LinkedProgram) (q : Asked) (names : Names) (o : Site) (s : Start Reach) : Type 0 where
  pub node : Node
  pub start : StartIn p q o node
  pub base_is : s.base ≡ 0
  pub node_is : slice_get names.nodes s.node ≡ Some node
  pub weight_is : s.weight ≡ reach_domain.one

-- a start of the call system: a start node, with the strings of its method
pub record IsCallStart (names : Names) (Begins : Node → Type 0) (s : Start Reach) : Type 0 where
  pub node : Node
  pub start : Begins node
  pub base_is : s.base ≡ node.place.method
  pub node_is : slice_get names.nodes s.node ≡ Some node
  pub weight_is : s.weight ≡ reach_domain.one

-- the field system of a site over meets
pub record IsFieldSystem (p : LinkedProgram) (q : Asked) (names : Names) (Meet : Site → Site → StoreAt → Type 0) (o : Site) (job : Job Reach) : Type 0 where
  pub steps : job.steps ≡ []
  pub last : job.last ≡ 0
  pub rules : (r : Rule Reach) → Has job.rules r ↔ IsFieldRule p q names Meet o r
  pub starts : (s : Start Reach) → Has job.starts s ↔ IsFieldStart p q names o s

-- the call system from these start nodes
pub record IsCallSystem (p : LinkedProgram) (q : Asked) (names : Names) (Begins : Node → Type 0) (job : Job Reach) : Type 0 where
  pub steps : AreStrings p names.calls job.steps
  pub last : IsLast p job.last
  pub rules : (r : Rule Reach) → Has job.rules r ↔ IsCallRule p q names r
  pub starts : (s : Start Reach) → Has job.starts s ↔ IsCallStart names Begins s

-- the system derives the word at the node
abbrev pub Reaches : Job Reach → ℕ → List ℕ → Type 0
Reaches job node word = Derives reach_domain job.rules job.starts job.steps job.last node word reach_domain.one
