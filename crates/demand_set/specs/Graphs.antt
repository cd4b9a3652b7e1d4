-- Graphs of edges and stores that are asked for, piece by piece.
use Rattle.std.specs.Prelude.{◌≡◌, ℕ, ◌↔◌, List, ◌++◌, None, Some}
use Rattle.std.specs.declared.option.Option.{Option}
use Rattle.spds_rules.specs.declared.edge.Edge.{Edge}
use Rattle.spds_rules.specs.declared.edge.EdgeKind.{EdgeKind}
use Rattle.spds_rules.specs.declared.node.Node.{Node}
use Rattle.spds_rules.specs.declared.store.StoreAt.{StoreAt}

-- an edge into the node
abbrev pub EdgeInto : (Node → EdgeKind → Node → Type 0) → Node → Edge → Type 0
EdgeInto Edges node e = Edges e.from e.kind e.to × (e.to ≡ node)

-- a store of the field
abbrev pub StoreOf : (StoreAt → Type 0) → ℕ → StoreAt → Type 0
StoreOf Stores field s = Stores s × (s.field ≡ field)

-- the edges stay
abbrev pub AreSameEdges : (Node → EdgeKind → Node → Type 0) → (Node → EdgeKind → Node → Type 0) → Type 0
AreSameEdges Old New = (from : Node) (kind : EdgeKind) (to : Node) → New from kind to ↔ Old from kind to

-- the stores stay
abbrev pub AreSameStores : (StoreAt → Type 0) → (StoreAt → Type 0) → Type 0
AreSameStores Old New = (s : StoreAt) → New s ↔ Old s

-- where the graph tells the nodes that it was asked for, these came last, in this order
abbrev pub Asks : Option (List Node) → List Node → Option (List Node) → Type 0
Asks None nodes now = Unit {0}
Asks (Some earlier) nodes now = now ≡ Some (earlier ++ nodes)
