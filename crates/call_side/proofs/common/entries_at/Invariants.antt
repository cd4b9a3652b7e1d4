use Rattle.std.proofs.Common.{take}
use Rattle.call_side.proofs.AtNode.{AreSoFar}
use Rattle.call_side.proofs.common.entries_at.Given as goal

abbrev pub invariant-loop-entry : goal.invariant-loop-entry
invariant-loop-entry l = AreSoFar l.table l.node (take l.entry-index l.all) l.entries.items
