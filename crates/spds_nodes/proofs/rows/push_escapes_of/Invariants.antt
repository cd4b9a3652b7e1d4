use Rattle.std.proofs.Common.{take}
use Rattle.lists.specs.Lists.{Has}
use Rattle.spds_nodes.specs.Added.{IsAdded, Over}
use Rattle.spds_nodes.specs.Into.{IsEscapeFrom}
use Rattle.spds_nodes.proofs.rows.push_escapes_of.Given as goal

abbrev pub invariant-loop-index : goal.invariant-loop-index
invariant-loop-index l = IsAdded (Over (Has (take l.index-index l.statements)) (IsEscapeFrom l.node l.call l.target)) l.fn.edges.items l.edges.items
