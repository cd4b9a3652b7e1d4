-- How the system of a site is made.
use Rattle.std.specs.Prelude.{◌≡◌, ◌↔◌, ◌⊎◌, ℕ, ◌<◌, List, [], Some, slice_get}
use Rattle.auto_table.specs.declared.rule.Rule.{Rule}
use Rattle.auto_table.specs.declared.rule.Rule.TheVariants as rule
use Rattle.call_side.specs.Bases.{AreLed, AreStrings, IsLast}
use Rattle.call_side.specs.Calls.{AreTheCalls}
use Rattle.call_side.specs.Indexed.{IsFiledBy, base_key}
use Rattle.call_side.specs.Trails.{AreKept}
use Rattle.demand_set.specs.Demands.{DemandParts}
use Rattle.demand_set.specs.declared.numbered.EdgeAt.{EdgeAt}
use Rattle.demand_set.specs.Numbers.{AreEdgesAt}
use Rattle.track_tables.specs.Held.{AreHeldIn}
use Rattle.lists.specs.Lists.{Has}
use Rattle.lists.specs.Groups.{Grouped}
use Rattle.link_rules.specs.Linked.{LinkedProgram}
use Rattle.link_sites.specs.declared.place.Place.{Place}
use Rattle.link_sites.specs.declared.site.Site.{Site}
use Rattle.post_star.specs.declared.bases.BaseStep.{BaseStep}
use Rattle.post_star.specs.declared.bases.Start.{Start}
use Rattle.post_star.specs.declared.key.Key.TheVariants as key
use Rattle.post_star.specs.Derivations.{Leads}
use Rattle.post_star.specs.Groups.{Groups, found_at}
use Rattle.post_star.specs.Measures.{to_of}
use Rattle.spds_rules.specs.declared.edge.EdgeKind.{EdgeKind}
use Rattle.spds_rules.specs.declared.edge.EdgeKind.TheVariants.{Flow, Load, Call, Return, Jump}
use Rattle.spds_rules.specs.declared.node.Node.{Node}
use Rattle.spds_rules.specs.Answers.{IsAnswered}
use Rattle.spds_rules.specs.Demand.{Asked}
use Rattle.spds_rules.specs.Nodes.{IsNode}
use Rattle.call_side.specs.Gathered.{AreGathered}
use Rattle.track_rules.specs.Protocols.{ProtocolParts}
use Rattle.track_systems.specs.Track.{IsLoaded}
use Rattle.track_systems.specs.Values.{IsWeight}
use Rattle.track_tables.specs.declared.growth.Due.{Due}
use Rattle.track_tables.specs.declared.growth.Due.TheVariants as due
use Rattle.track_tables.specs.declared.growth.Growth.{Growth}
use Rattle.track_tables.specs.declared.parts.TrackParts.{TrackParts}
use Rattle.track_tables.specs.declared.returns.Return.{Return as AReturn}
use Rattle.track_tables.specs.Returns.{AreReturns}
use Rattle.track_tables.specs.Systems.{HasStep, LeadsAlong}
use Rattle.weight_laws.specs.declared.rel.Rel.{Rel}

-- the rule of an edge of this kind with the weight
abbrev pub IsRuleBy : List Place → EdgeKind → ℕ → ℕ → Rel → Rule Rel → Type 0
IsRuleBy calls Flow from to weight r = r ≡ rule.Flow from to weight
IsRuleBy calls (Call call) from to weight r = (mark : ℕ) × (slice_get calls mark ≡ Some call) × (r ≡ rule.Push from to mark weight)
IsRuleBy calls (Return call) from to weight r = (mark : ℕ) × (slice_get calls mark ≡ Some call) × (r ≡ rule.Pop from mark to weight)
IsRuleBy calls (Load field) from to weight r = ⊥
IsRuleBy calls Jump from to weight r = ⊥

-- a rule of this kind of edge leads the first state to the second
abbrev pub HasStepBy : List Place → List (Rule Rel) → EdgeKind → ℕ → ℕ → ℕ → ℕ → Type 0
HasStepBy calls rules Flow from to i j = HasStep rules (λ w. rule.Flow from to w) i j
HasStepBy calls rules (Call call) from to i j = (mark : ℕ) → slice_get calls mark ≡ Some call → HasStep rules (λ w. rule.Push from to mark w) i j
HasStepBy calls rules (Return call) from to i j = (mark : ℕ) → slice_get calls mark ≡ Some call → HasStep rules (λ w. rule.Pop from mark to w) i j
HasStepBy calls rules (Load field) from to i j = Unit {0}
HasStepBy calls rules Jump from to i j = Unit {0}

module _ (p : LinkedProgram) (k : ProtocolParts) (q : Asked) (a : Site) (nodes : List Node) (calls : List Place) where
  -- the rule is that of the edge, and its weight is how states change along it
  pub record IsRuleOf (e : EdgeAt) (r : Rule Rel) : Type 0 where
    pub source : Node
    pub target : Node
    pub from_is : slice_get nodes e.from ≡ Some source
    pub to_is : slice_get nodes e.to ≡ Some target
    pub weight : Rel
    pub is_weight : IsWeight weight (LeadsAlong p k q a source e.kind target)
    pub is_rule : IsRuleBy calls e.kind e.from e.to weight r

  -- rules came that are those of such edges
  abbrev pub AreOf : (EdgeAt → Type 0) → List (Rule Rel) → List (Rule Rel) → Type 0
  AreOf Among old new = (r : Rule Rel) → Has new r → Has old r ⊎ ((e : EdgeAt) × Among e × IsRuleOf e r)

  -- where states lead along the edge, a rule leads them
  abbrev pub IsTaken : EdgeAt → List (Rule Rel) → Type 0
  IsTaken e rules = (source target : Node) (i j : ℕ) → slice_get nodes e.from ≡ Some source → slice_get nodes e.to ≡ Some target → i < 16 → j < 16
      → LeadsAlong p k q a source e.kind target i j → HasStepBy calls rules e.kind e.from e.to i j

-- a start with the weight at the node with the number, if the program has it
pub record IsStartAt (p : LinkedProgram) (nodes : List Node) (number : ℕ) (weight : Rel) (s : Start Rel) : Type 0 where
  pub node : Node
  pub there : slice_get nodes number ≡ Some node
  pub is_node : IsNode p node
  pub start_is : s ≡ record { base = node.place.method; node = number; weight = weight }

-- the node is one of the first in the list, so many of them
abbrev pub IsPast : List ℕ → ℕ → ℕ → Type 0
IsPast nodes at node = (i : ℕ) × (i < at) × (slice_get nodes i ≡ Some node)

-- the edge back from a call is due, by the marks that are open or by the nodes that were reached
abbrev pub IsDue : Growth → Due → AReturn → Type 0
IsDue g due.Each r = Unit {0}
IsDue g due.Open r = Has g.marks.keys r.mark
IsDue g (due.Past at) r = IsPast g.reached.keys at r.edge.from

-- the mark that the rule puts on, if it does one, is open
abbrev pub IsOpenFor : List ℕ → Rule Rel → Type 0
IsOpenFor marks (rule.Push from to mark weight) = Has marks mark
IsOpenFor marks (rule.Flow from to weight) = Unit {0}
IsOpenFor marks (rule.Pop from mark to weight) = Unit {0}

-- the steps from these bases are by open marks, and lead to bases among them
abbrev pub IsOpenAbove : List BaseStep → List ℕ → List ℕ → Type 0
IsOpenAbove steps bases marks = (step : BaseStep) → Has steps step → Has bases step.base → Has marks step.mark × Has bases step.below

-- each mark of the words that lead from the base is open
abbrev pub AreOpenFrom : List BaseStep → ℕ → ℕ → List ℕ → Type 0
AreOpenFrom steps base last marks = (word : List ℕ) (mark : ℕ) → Leads steps base word last → Has word mark → Has marks mark

-- rules came, nodes that they lead to, and marks that they put on
pub record IsGrown (old new : Growth) : Type 0 where
  pub steps : new.work.steps ≡ old.work.steps
  pub last : new.work.last ≡ old.work.last
  pub starts : new.work.starts ≡ old.work.starts
  pub rules : (r : Rule Rel) → Has old.work.rules r → Has new.work.rules r
  pub reached : AreKept old.reached.keys new.reached.keys
  pub within : (r : Rule Rel) → Has new.work.rules r → Has old.work.rules r ⊎ Has new.reached.keys (to_of r)
  pub marks : AreKept old.marks.keys new.marks.keys
  pub opened : (r : Rule Rel) → Has new.work.rules r → Has old.work.rules r ⊎ IsOpenFor new.marks.keys r

-- starts with the weight came, at the nodes with these numbers, which are reached
pub record HasBegun (p : LinkedProgram) (nodes : List Node) (numbers : List ℕ) (weight : Rel) (old new : Growth) : Type 0 where
  pub steps : new.work.steps ≡ old.work.steps
  pub last : new.work.last ≡ old.work.last
  pub rules : new.work.rules ≡ old.work.rules
  pub starts : (s : Start Rel) → Has new.work.starts s ↔ (Has old.work.starts s ⊎ ((number : ℕ) × Has numbers number × IsStartAt p nodes number weight s))
  pub reached : AreKept old.reached.keys new.reached.keys
  pub within : (s : Start Rel) → Has new.work.starts s → Has old.work.starts s ⊎ Has new.reached.keys s.node

-- those of the nodes with these numbers that may hold an object of the site
abbrev pub AreAnswering : LinkedProgram → Asked → List Node → Site → List ℕ → List ℕ → Type 0
AreAnswering p q nodes a numbers found = (number : ℕ) (n : Node) → slice_get nodes number ≡ Some n → Has found number ↔ (Has numbers number × IsAnswered p q n a)

-- an edge of this kind doesn't come back from a call
abbrev pub IsOnward : EdgeKind → Type 0
IsOnward (Return call) = ⊥
IsOnward Flow = Unit {0}
IsOnward (Call call) = Unit {0}
IsOnward (Load field) = Unit {0}
IsOnward Jump = Unit {0}

-- the edge, from the node with the number, if it doesn't come back from a call
abbrev pub IsOnwardFrom : ℕ → EdgeAt → EdgeAt → Type 0
IsOnwardFrom number edge e = (e ≡ edge) × IsOnward edge.kind × (edge.from ≡ number)

-- those of the edges that don't come back from calls, by their sources
abbrev pub AreOnward : List EdgeAt → Groups EdgeAt → Type 0
AreOnward edges onward = (number : ℕ) → AreGathered (IsOnwardFrom number) edges (found_at onward (key.Node number))

-- the numbers of the nodes that these edges load or that a static field comes to along one
abbrev pub AreLoaded : List EdgeAt → List ℕ → Type 0
AreLoaded edges numbers = (number : ℕ) → Has numbers number ↔ ((e : EdgeAt) × Has edges e × IsLoaded e.kind × (e.to ≡ number))

-- the edge is one of these, with some mark
abbrev pub IsBackAmong : List AReturn → EdgeAt → Type 0
IsBackAmong returns e = (r : AReturn) × Has returns r × (r.edge ≡ e)

-- an edge of the parts
abbrev pub IsEdgeOf : TrackParts → EdgeAt → Type 0
IsEdgeOf parts e = ((number : ℕ) × Has (found_at parts.onward (key.Node number)) e) ⊎ IsBackAmong parts.returns e

-- what the systems of all sites share
pub record AreTrackParts (p : LinkedProgram) (d : DemandParts) (parts : TrackParts) : Type 0 where
  pub edges : List EdgeAt
  pub numbered : AreEdgesAt d.nodes d.edges edges
  pub onward : AreOnward edges parts.onward
  pub returns : AreReturns parts.calls edges parts.returns
  pub loaded : AreLoaded edges parts.loaded.keys
  pub are_calls : AreTheCalls p parts.calls
  pub none : parts.strings.value.rules ≡ []
  pub strings : AreStrings p parts.calls parts.strings.value.steps
  pub last : IsLast p parts.strings.value.last
  pub led : AreLed p parts.strings.value.steps
  pub steps : IsFiledBy base_key parts.strings.value.steps parts.steps

-- for each site, the places in the list of loaded nodes at which there may be objects of it
abbrev pub AreLoadedIn : LinkedProgram → Asked → DemandParts → TrackParts → Grouped ℕ ℕ → Type 0
AreLoadedIn p q d parts loaded = AreHeldIn p q d parts.loaded.keys loaded
