use Rattle.std.proofs.Common.{◌-◌, ◌≤◌, length, take}
use Rattle.demand_set.specs.Graphs.{AreSameEdges, AreSameStores, Asks}
use Rattle.demand_set.specs.Numbers.{AreEdgesAt}
use Rattle.demand_set.specs.Searches.{IsSearched}
use Rattle.demand_set.proofs.searching.search.Given as goal

abbrev pub invariant-loop-at : goal.invariant-loop-at
invariant-loop-at g l = record {
  same_edges : AreSameEdges (g.G.Graph.edge l.fn.graph) (g.G.Graph.edge l.graph);
  same_stores : AreSameStores (g.G.Graph.store l.fn.graph) (g.G.Graph.store l.graph);
  asked : Asks (g.G.Graph.asked l.fn.graph) (take l.at l.found.nodes) (g.G.Graph.asked l.graph);
  searched : IsSearched (g.G.Graph.edge l.fn.graph) (g.G.Graph.store l.fn.graph) l.fn.targets l.at l.found.nodes l.found.edges.items l.found.fields l.found.stores.items;
  numbered : AreEdgesAt l.found.nodes l.found.edges.items l.found.numbered.items;
  within : l.at ≤ length l.found.nodes;
  few : l.at ≤ l.fn.budget;
}

abbrev pub decreases-loop-at : goal.decreases-loop-at
decreases-loop-at g l = l.fn.budget - l.at
