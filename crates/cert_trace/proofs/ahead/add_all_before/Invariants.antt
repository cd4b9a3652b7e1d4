use Rattle.std.proofs.Common.{take}
use Rattle.lists.specs.Grown.{IsLonger}
use Rattle.lists.specs.Lists.{Has}
use Rattle.spds_rules.specs.declared.edge.Edge.{Edge}
use Rattle.cert_trace.specs.Ahead.{IsBefore}
use Rattle.cert_trace.proofs.ahead.add_all_before.Given as goal

abbrev pub invariant-loop-edge : goal.invariant-loop-edge
invariant-loop-edge l = record {
  longer : IsLonger l.fn.found.keys l.found.keys;
  before : (e : Edge) → Has (take l.edge-index l.edges) e → IsBefore l.found.keys l.args l.field e;
}
