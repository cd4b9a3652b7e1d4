use Rattle.std.proofs.Common.{take}
use Rattle.call_side.specs.Gathered.{AreGathered}
use Rattle.track_tables.specs.ByNode.{IsCellOf}
use Rattle.track_tables.proofs.by_node.cells_of.Given as goal

abbrev pub invariant-loop-entry : goal.invariant-loop-entry
invariant-loop-entry l = AreGathered (IsCellOf l.table) (take l.entry-index l.entries) l.cells.items
