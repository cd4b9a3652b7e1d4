use Rattle.std.proofs.Common.{take}
use Rattle.track_tables.specs.Making.{AreLoaded}
use Rattle.track_tables.proofs.parts.all_loaded.Given as goal

abbrev pub invariant-loop-edge : goal.invariant-loop-edge
invariant-loop-edge l = AreLoaded (take l.edge-index l.edges) l.loaded.keys
