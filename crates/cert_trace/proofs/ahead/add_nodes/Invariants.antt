use Rattle.std.proofs.Common.{take}
use Rattle.lists.specs.Grown.{IsLonger}
use Rattle.lists.specs.Lists.{Has}
use Rattle.spds_rules.specs.declared.node.Node.{Node}
use Rattle.cert_trace.specs.Ahead.{IsFound}
use Rattle.cert_trace.proofs.ahead.add_nodes.Given as goal

abbrev pub invariant-loop-node : goal.invariant-loop-node
invariant-loop-node l = record {
  longer : IsLonger l.fn.found.keys l.found.keys;
  all : (n : Node) → Has (take l.node-index l.nodes) n → IsFound l.found.keys l.field n;
}
