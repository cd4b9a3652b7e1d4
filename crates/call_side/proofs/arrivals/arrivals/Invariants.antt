use Rattle.std.proofs.Common.{take}
use Rattle.call_side.specs.Gathered.{AreGathered}
use Rattle.call_side.specs.Arrivals.{HasOwn}
use Rattle.call_side.specs.Coded.{node_count}
use Rattle.call_side.proofs.arrivals.arrivals.Given as goal

abbrev pub invariant-loop-entry : goal.invariant-loop-entry
invariant-loop-entry l = AreGathered (HasOwn node_count l.table) (take l.entry-index l.entries) l.nodes.keys
