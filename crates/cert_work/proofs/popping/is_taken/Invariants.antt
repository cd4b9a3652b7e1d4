use Rattle.std.proofs.Common.{take}
use Rattle.lists.specs.Lists.{Has}
use Rattle.spds_rules.specs.declared.edge.Edge.{Edge}
use Rattle.cert_rules.specs.Given.{Takes}
use Rattle.cert_work.proofs.popping.is_taken.Given as goal

abbrev pub invariant-loop-edge : goal.invariant-loop-edge
invariant-loop-edge l = (e : Edge) → Has (take l.edge-index l.edges) e → Takes l.held.side l.held.entry e.kind → ⊥
