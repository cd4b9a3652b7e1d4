-- What a walk backwards over a graph finds, and what it asks for.
use Rattle.std.specs.Prelude.{ℕ, ◌≤◌, List, length}
use Rattle.std.specs.declared.option.Option.{Option}
use Rattle.lists.specs.Lists.{Has, IsApart, AreAll}
use Rattle.spds_rules.specs.declared.edge.EdgeKind.{EdgeKind}
use Rattle.spds_rules.specs.declared.node.Node.{Node}
use Rattle.spds_rules.specs.declared.store.StoreAt.{StoreAt}
use Rattle.spds_rules.specs.Demand.{Demanded, IsFieldDemanded}
use Rattle.demand_set.specs.declared.demanded.Walk.{Walk}
use Rattle.demand_set.specs.declared.demanded.Walked.{Walked}
use Rattle.demand_set.specs.Graphs.{Asks}

-- what was walked, but for the numbers
abbrev pub walk_of : Walked → Walk
walk_of w = record { nodes = w.nodes; edges = w.edges; fields = w.fields; stores = w.stores }

-- the demanded nodes, the edges into them, the fields that these load, and the stores of these fields
pub record IsWalk (Edges : Node → EdgeKind → Node → Type 0) (Stores : StoreAt → Type 0) (targets : List Node) (w : Walk) : Type 0 where
  pub nodes : AreAll (Demanded Edges Stores targets) w.nodes
  pub edges : AreAll (λ e. Edges e.from e.kind e.to × Demanded Edges Stores targets e.to) w.edges
  pub fields : AreAll (IsFieldDemanded Edges Stores targets) w.fields
  pub stores : AreAll (λ s. Stores s × IsFieldDemanded Edges Stores targets s.field) w.stores

-- at most so many nodes with the fact were asked for, each once, and no other
pub record AsksFew (Fact : Node → Type 0) (most : ℕ) (earlier now : Option (List Node)) : Type 0 where
  pub nodes : List Node
  pub asked : Asks earlier nodes now
  pub each : (n : Node) → Has nodes n → Fact n
  pub apart : IsApart nodes
  pub few : length nodes ≤ most

-- no more elements than the bound have the fact: a list that isn't longer has them all
pub record HasAtMost {X : Type 0} (P : X → Type 0) (bound : ℕ) : Type 0 where
  pub some : List X
  pub all : (x : X) → P x → Has some x
  pub few : length some ≤ bound
