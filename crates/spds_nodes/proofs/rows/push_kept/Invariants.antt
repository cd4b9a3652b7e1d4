use Rattle.std.proofs.Common.{take}
use Rattle.lists.specs.Lists.{Has}
use Rattle.spds_nodes.specs.Added.{IsAdded, Over}
use Rattle.spds_nodes.specs.Into.{IsKeptFrom}
use Rattle.spds_nodes.proofs.rows.push_kept.Given as goal

abbrev pub invariant-loop-index : goal.invariant-loop-index
invariant-loop-index l = IsAdded (Over (Has (take l.index-index l.statements)) (IsKeptFrom l.linked l.node)) l.fn.edges.items l.edges.items
