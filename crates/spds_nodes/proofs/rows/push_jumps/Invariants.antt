use Rattle.std.proofs.Common.{take}
use Rattle.lists.specs.Lists.{Has}
use Rattle.spds_nodes.specs.Added.{IsAdded, Over}
use Rattle.spds_nodes.specs.Into.{IsJumpFrom}
use Rattle.spds_nodes.proofs.rows.push_jumps.Given as goal

abbrev pub invariant-loop-store : goal.invariant-loop-store
invariant-loop-store l = IsAdded (Over (Has (take l.store-index l.stores)) (IsJumpFrom l.linked l.node l.field)) l.fn.edges.items l.edges.items
