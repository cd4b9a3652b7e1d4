use Rattle.std.proofs.Common.{take}
use Rattle.lists.specs.Lists.{Has}
use Rattle.spds_nodes.specs.Added.{IsAdded, Over}
use Rattle.spds_nodes.specs.Into.{IsHandledFrom}
use Rattle.spds_nodes.proofs.rows.push_handled.Given as goal

abbrev pub invariant-loop-index : goal.invariant-loop-index
invariant-loop-index l = IsAdded (Over (Has (take l.index-index l.statements)) (IsHandledFrom l.linked l.node l.var)) l.fn.edges.items l.edges.items
