use Rattle.std.proofs.Common.{take}
use Rattle.lists.specs.Lists.{Has}
use Rattle.spds_nodes.specs.Added.{IsAdded, Over}
use Rattle.spds_nodes.specs.Into.{IsReturnOf}
use Rattle.spds_nodes.proofs.rows.push_returns.Given as goal

abbrev pub invariant-loop-target : goal.invariant-loop-target
invariant-loop-target l = IsAdded (Over (Has (take l.target-index l.target-items)) (IsReturnOf l.linked l.node l.call)) l.fn.edges.items l.edges.items
