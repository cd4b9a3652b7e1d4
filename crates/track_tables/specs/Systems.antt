-- The system of a site under a protocol, as rules between the numbers of nodes: its marks are the numbers of calls, and its weights relations over sixteen
-- states. It is said state by state: how many rules there are between two nodes, and whether one of them leads nowhere, says nothing.
use Rattle.std.specs.Prelude.{◌≡◌, ◌↔◌, ℕ, ◌<◌, List, ◌∷◌, Some, slice_get}
use Rattle.auto_table.specs.Cells.{Cells}
use Rattle.auto_table.specs.declared.rule.Rule.{Rule}
use Rattle.auto_table.specs.declared.rule.Rule.TheVariants as rule
use Rattle.call_side.specs.Bases.{AreStrings, IsLast}
use Rattle.call_side.specs.Calls.{AreTheCalls}
use Rattle.demand_set.specs.Demands.{DemandParts, IsDemandOf}
use Rattle.lists.specs.Lists.{Has}
use Rattle.link_rules.specs.Linked.{LinkedProgram}
use Rattle.link_sites.specs.declared.place.Place.{Place}
use Rattle.link_sites.specs.declared.site.Site.{Site}
use Rattle.post_star.specs.declared.bases.Start.{Start}
use Rattle.post_star.specs.Derivations.{Derives}
use Rattle.post_star.specs.Jobs.{Job}
use Rattle.post_star.specs.Readings.{IsSaturated}
use Rattle.spds_rules.specs.declared.edge.EdgeKind.{EdgeKind}
use Rattle.spds_rules.specs.declared.edge.EdgeKind.TheVariants.{Flow, Load, Call, Return, Jump}
use Rattle.spds_rules.specs.declared.node.Node.{Node}
use Rattle.spds_rules.specs.Answers.{IsAnswered}
use Rattle.spds_rules.specs.Demand.{Asked, EdgeIn, StartIn}
use Rattle.track_rules.specs.Protocols.{ProtocolParts}
use Rattle.track_systems.specs.Track.{IsLoaded, IsMade}
use Rattle.track_systems.specs.Weights.{Anywhere, Changes, Owns, Sends}
use Rattle.weight_laws.specs.declared.rel.Rel.{Rel}
use Rattle.weight_laws.specs.Rel.{Relates, rel_domain}

-- some rule of this form has a weight that leads the first state to the second
abbrev pub HasStep : List (Rule Rel) → (Rel → Rule Rel) → ℕ → ℕ → Type 0
HasStep rules form i j = (w : Rel) × Has rules (form w) × Relates w i j

-- some start of the node from the base has a weight that leads state 0 to this one
abbrev pub HasStart : List (Start Rel) → ℕ → ℕ → ℕ → Type 0
HasStart starts base number i = (w : Rel) × Has starts (record { base = base; node = number; weight = w }) × Relates w 0 i

-- the system derives some word at the node
abbrev pub IsReached : Job Rel → ℕ → Type 0
IsReached job number = (word : List ℕ) × (w : Rel) × Derives rel_domain job.rules job.starts job.steps job.last number word w

-- it derives some word there that begins with the mark
abbrev pub IsReachedUnder : Job Rel → ℕ → ℕ → Type 0
IsReachedUnder job number mark = (word : List ℕ) × (w : Rel) × Derives rel_domain job.rules job.starts job.steps job.last number (mark ∷ word) w

module _ (p : LinkedProgram) (k : ProtocolParts) (q : Asked) (a : Site) where
  -- along an edge the first state may become the second. What comes out of the heap or of a static field begins anew, and doesn't go along an edge
  abbrev pub LeadsAlong : Node → EdgeKind → Node → ℕ → ℕ → Type 0
  LeadsAlong b Flow n i j = Changes p k q a b n i j
  LeadsAlong b (Call call) n i j = Owns p k q a call b.var i j
  LeadsAlong b (Return call) n i j = j ≡ i
  LeadsAlong b (Load field) n i j = ⊥
  LeadsAlong b Jump n i j = ⊥

  -- an object of the site comes to the node under each call string of its method, and may be in the state there: it is made there and no event came yet, it
  -- is a constant, or it comes out of the heap or of a static field
  pub data Begins : Node → ℕ → Type 0 where
    fresh : {n : Node} → StartIn p q a n → IsMade a → Begins n 0
    constant : {n : Node} {i : ℕ} → StartIn p q a n → (IsMade a → ⊥) → Sends p k q a Anywhere 0 i → Begins n i
    loaded : {b n : Node} {kind : EdgeKind} {i : ℕ} → EdgeIn p q b kind n → IsLoaded kind → IsAnswered p q n a → Sends p k q a Anywhere 0 i → Begins n i

  -- an edge of this kind between the nodes with the numbers, along which the first state may become the second
  pub record IsEdgeStep (nodes : List Node) (kind : EdgeKind) (from to i j : ℕ) : Type 0 where
    pub source : Node
    pub target : Node
    pub edge : EdgeIn p q source kind target
    pub from_is : slice_get nodes from ≡ Some source
    pub to_is : slice_get nodes to ≡ Some target
    pub along : LeadsAlong source kind target i j

  -- the same over the call with the mark
  abbrev pub IsCrossStep : List Node → List Place → (Place → EdgeKind) → ℕ → ℕ → ℕ → ℕ → ℕ → Type 0
  IsCrossStep nodes calls over from mark to i j = (call : Place) × (slice_get calls mark ≡ Some call) × IsEdgeStep nodes (over call) from to i j

  -- the node with the number, in a method, at which objects begin
  pub record IsBeginning (nodes : List Node) (method number i : ℕ) : Type 0 where
    pub node : Node
    pub there : slice_get nodes number ≡ Some node
    pub method_is : method ≡ node.place.method
    pub begins : Begins node i

  -- the system of the site over a demand: edges are rules, from each node that it reaches, and back from each call under whose mark it reaches it; and
  -- objects begin with the call strings of methods
  pub record IsTrackSystem (d : DemandParts) (job : Job Rel) : Type 0 where
    pub demand : IsDemandOf p q d
    pub calls : List Place
    pub are_calls : AreTheCalls p calls
    pub steps : AreStrings p calls job.steps
    pub last : IsLast p job.last
    pub flows : (from to i j : ℕ) → i < 16 → j < 16 → IsReached job from
        → HasStep job.rules (λ w. rule.Flow from to w) i j ↔ IsEdgeStep d.nodes Flow from to i j
    pub pushes : (from to mark i j : ℕ) → i < 16 → j < 16 → IsReached job from
        → HasStep job.rules (λ w. rule.Push from to mark w) i j ↔ IsCrossStep d.nodes calls Call from mark to i j
    pub pops : (from mark to i j : ℕ) → i < 16 → j < 16 → IsReachedUnder job from mark
        → HasStep job.rules (λ w. rule.Pop from mark to w) i j ↔ IsCrossStep d.nodes calls Return from mark to i j
    pub starts : (method number i : ℕ) → i < 16 → HasStart job.starts method number i ↔ IsBeginning d.nodes method number i

  -- the table has the values of this system
  pub record IsTrackTable (d : DemandParts) (t : Cells Rel) : Type 0 where
    pub job : Job Rel
    pub system : IsTrackSystem d job
    pub saturated : IsSaturated rel_domain job.rules job.starts job.steps job.last t
