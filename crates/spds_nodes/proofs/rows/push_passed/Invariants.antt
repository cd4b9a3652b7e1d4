use Rattle.std.proofs.Common.{take}
use Rattle.lists.specs.Lists.{Has}
use Rattle.spds_nodes.specs.Added.{IsAdded, Over}
use Rattle.spds_nodes.specs.Into.{IsPassedFrom}
use Rattle.spds_nodes.proofs.rows.push_passed.Given as goal

abbrev pub invariant-loop-call : goal.invariant-loop-call
invariant-loop-call l = IsAdded (Over (Has (take l.call-index l.calls)) (IsPassedFrom l.linked l.node)) l.fn.edges.items l.edges.items
