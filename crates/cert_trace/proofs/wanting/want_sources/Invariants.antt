use Rattle.std.proofs.Common.{take}
use Rattle.lists.specs.Lists.{Has}
use Rattle.spds_rules.specs.declared.edge.Edge.{Edge}
use Rattle.cert_work.specs.Wants.{IsWanted, IsWider}
use Rattle.cert_trace.proofs.wanting.want_sources.Given as goal

abbrev pub invariant-loop-edge : goal.invariant-loop-edge
invariant-loop-edge l = record {
  wider : IsWider l.fn.wants l.wants;
  all : (e : Edge) → Has (take l.edge-index l.edges) e → IsWanted l.wants l.site e.from;
}
