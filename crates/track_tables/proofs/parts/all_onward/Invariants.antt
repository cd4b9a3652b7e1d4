use Rattle.std.proofs.Common.{take}
use Rattle.track_tables.specs.Making.{AreOnward}
use Rattle.track_tables.proofs.parts.all_onward.Given as goal

abbrev pub invariant-loop-edge : goal.invariant-loop-edge
invariant-loop-edge l = AreOnward (take l.edge-index l.edges) l.onward
