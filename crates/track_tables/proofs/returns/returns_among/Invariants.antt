use Rattle.std.proofs.Common.{take}
use Rattle.call_side.specs.Gathered.{AreGathered}
use Rattle.track_tables.specs.Returns.{IsReturnOf}
use Rattle.track_tables.proofs.returns.returns_among.Given as goal

abbrev pub invariant-loop-edge : goal.invariant-loop-edge
invariant-loop-edge l = AreGathered (IsReturnOf l.calls) (take l.edge-index l.edges) l.all.items
