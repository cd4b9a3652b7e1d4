use Rattle.std.proofs.Common.{take}
use Rattle.call_side.specs.Gathered.{AreGathered}
use Rattle.spds_tables.specs.Making.{IsJumpAt}
use Rattle.spds_tables.proofs.making.jumps.Given as goal

abbrev pub invariant-loop-edge : goal.invariant-loop-edge
invariant-loop-edge l = AreGathered (IsJumpAt l.nodes) (take l.edge-index l.edges) l.jumps.items
