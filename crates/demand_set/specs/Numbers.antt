-- Edges by the numbers of their nodes.
use Rattle.std.specs.Prelude.{◌≡◌, List, Some, slice_get}
use Rattle.lists.specs.Lists.{Each}
use Rattle.spds_rules.specs.declared.edge.Edge.{Edge}
use Rattle.spds_rules.specs.declared.node.Node.{Node}
use Rattle.demand_set.specs.declared.numbered.EdgeAt.{EdgeAt}

-- the edge by numbers
pub record IsEdgeAt (nodes : List Node) (x : Edge) (e : EdgeAt) : Type 0 where
  pub from_is : slice_get nodes e.from ≡ Some x.from
  pub to_is : slice_get nodes e.to ≡ Some x.to
  pub kind_is : e.kind ≡ x.kind

-- the edges by numbers, side by side
abbrev pub AreEdgesAt : List Node → List Edge → List EdgeAt → Type 0
AreEdgesAt nodes = Each (IsEdgeAt nodes)
