-- How far a walk over a graph has come.
use Rattle.std.specs.Prelude.{◌≡◌, ℕ, ◌<◌, ◌⊎◌, List, Some, slice_get}
use Rattle.lists.specs.Lists.{Has, AreAll}
use Rattle.spds_rules.specs.declared.edge.Edge.{Edge}
use Rattle.spds_rules.specs.declared.edge.EdgeKind.{EdgeKind}
use Rattle.spds_rules.specs.declared.edge.EdgeKind.TheVariants.{Load}
use Rattle.spds_rules.specs.declared.node.Node.{Node}
use Rattle.spds_rules.specs.declared.store.StoreAt.{StoreAt}
use Rattle.spds_rules.specs.Demand.{Demanded}

-- one of the two nodes of a store
abbrev pub IsEnd : StoreAt → Node → Type 0
IsEnd s n = (n ≡ s.base) ⊎ (n ≡ s.arg)

-- a node of a store with the fact
abbrev pub IsEndOf : (StoreAt → Type 0) → Node → Type 0
IsEndOf Fact n = (s : StoreAt) × Fact s × IsEnd s n

-- the source of the edge, or, where it loads a field, a node of a store of the field
abbrev pub ComesFrom : (StoreAt → Type 0) → Edge → Node → Type 0
ComesFrom Stores e n = (n ≡ e.from) ⊎ IsEndOf (λ s. Stores s × (e.kind ≡ Load s.field)) n

-- what comes from an edge with the fact
abbrev pub ComesFromOne : (StoreAt → Type 0) → (Edge → Type 0) → Node → Type 0
ComesFromOne Stores Fact n = (e : Edge) × Fact e × ComesFrom Stores e n

-- the old nodes kept their places, and each new one has the fact
pub record Grows (Fact : Node → Type 0) (old new : List Node) : Type 0 where
  pub kept : (i : ℕ) (n : Node) → slice_get old i ≡ Some n → slice_get new i ≡ Some n
  pub only : (n : Node) → Has new n → Has old n ⊎ Fact n

-- the stores are those of the fields, and their nodes are among the nodes
pub record IsStored (Stores : StoreAt → Type 0) (nodes : List Node) (fields : List ℕ) (stores : List StoreAt) : Type 0 where
  pub are : AreAll (λ s. Stores s × Has fields s.field) stores
  pub ends : (s : StoreAt) (n : Node) → Has stores s → IsEnd s n → Has nodes n

-- the source of each edge is among the nodes, the fields are those that the edges load, and the stores are those of the fields
pub record IsFollowed (Stores : StoreAt → Type 0) (nodes : List Node) (edges : List Edge) (fields : List ℕ) (stores : List StoreAt) : Type 0 where
  pub sources : (e : Edge) → Has edges e → Has nodes e.from
  pub loaded : (e : Edge) (field : ℕ) → Has edges e → e.kind ≡ Load field → Has fields field
  pub are_loaded : (field : ℕ) → Has fields field → (e : Edge) × Has edges e × (e.kind ≡ Load field)
  pub stored : IsStored Stores nodes fields stores

-- the node is one of the first k
abbrev pub IsBelow : ℕ → List Node → Node → Type 0
IsBelow k nodes n = (i : ℕ) × (i < k) × (slice_get nodes i ≡ Some n)

-- all nodes are demanded, the targets are there, and the edges into the first k nodes were followed
pub record IsSearched (Edges : Node → EdgeKind → Node → Type 0) (Stores : StoreAt → Type 0) (targets : List Node) (k : ℕ) (nodes : List Node) (edges : List Edge)
    (fields : List ℕ) (stores : List StoreAt) : Type 0 where
  pub demanded : (n : Node) → Has nodes n → Demanded Edges Stores targets n
  pub begun : (n : Node) → Has targets n → Has nodes n
  pub are_edges : AreAll (λ e. Edges e.from e.kind e.to × IsBelow k nodes e.to) edges
  pub followed : IsFollowed Stores nodes edges fields stores
