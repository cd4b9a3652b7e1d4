use Rattle.std.proofs.Common.{take}
use Rattle.lists.specs.Lists.{Has}
use Rattle.spds_rules.specs.declared.edge.Edge.{Edge}
use Rattle.cert_trace.specs.Settled.{IsBackFiled}
use Rattle.cert_trace.proofs.filing.file_back.Given as goal

abbrev pub invariant-loop-edge : goal.invariant-loop-edge
invariant-loop-edge l = (e : Edge) → Has (take l.edge-index l.edges) e → IsBackFiled l.files e
