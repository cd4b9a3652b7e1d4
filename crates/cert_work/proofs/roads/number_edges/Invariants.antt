use Rattle.std.proofs.Common.{take}
use Rattle.lists.specs.Grown.{IsLonger}
use Rattle.lists.specs.Lists.{IsApart}
use Rattle.cert_work.specs.Roads.{AreUnder}
use Rattle.cert_work.proofs.roads.number_edges.Given as goal

abbrev pub invariant-loop-edge : goal.invariant-loop-edge
invariant-loop-edge l = record {
  apart : IsApart l.nodes.keys;
  under : AreUnder l.nodes.keys (take l.edge-index l.edges) l.pairs.items;
  longer : IsLonger l.fn.nodes.keys l.nodes.keys;
}
