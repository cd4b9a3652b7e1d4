use Rattle.std.proofs.Common.{take}
use Rattle.track_tables.proofs.ByNode.{ArePut}
use Rattle.track_tables.proofs.by_node.add_row.Given as goal

abbrev pub invariant-loop-reached : goal.invariant-loop-reached
invariant-loop-reached l = ArePut l.entry (take l.reached-index l.row) l.fn.cells.items l.cells.items
