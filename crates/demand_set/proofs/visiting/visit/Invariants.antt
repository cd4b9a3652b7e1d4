use Rattle.std.proofs.Common.{◌≡◌, ◌++◌, ◌∷◌, [], take}
use Rattle.lists.specs.Lists.{Has}
use Rattle.demand_set.specs.Graphs.{AreSameEdges, AreSameStores, Asks}
use Rattle.demand_set.specs.Numbers.{AreEdgesAt}
use Rattle.demand_set.specs.Searches.{ComesFromOne, Grows, IsFollowed}
use Rattle.demand_set.proofs.visiting.visit.Given as goal

abbrev pub invariant-loop-edge : goal.invariant-loop-edge
invariant-loop-edge g l = record {
  same_edges : AreSameEdges (g.G.Graph.edge l.fn.graph) (g.G.Graph.edge l.graph);
  same_stores : AreSameStores (g.G.Graph.store l.fn.graph) (g.G.Graph.store l.graph);
  asked : Asks (g.G.Graph.asked l.fn.graph) (l.fn.node ∷ []) (g.G.Graph.asked l.graph);
  edges : l.found.edges.items ≡ l.fn.found.edges.items ++ take l.edge-index l.edge-items;
  grows : Grows (ComesFromOne (g.G.Graph.store l.fn.graph) (Has (take l.edge-index l.edge-items))) l.fn.found.nodes l.found.nodes;
  numbered : AreEdgesAt l.found.nodes l.found.edges.items l.found.numbered.items;
  followed : IsFollowed (g.G.Graph.store l.fn.graph) l.found.nodes l.found.edges.items l.found.fields l.found.stores.items;
}
