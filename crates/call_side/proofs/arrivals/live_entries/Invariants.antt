use Rattle.std.proofs.Common.{◌-◌, ◌^◌, length}
use Rattle.call_side.specs.Arrivals.{AreLive}
use Rattle.call_side.proofs.arrivals.live_entries.Given as goal

abbrev pub invariant-loop-live : goal.invariant-loop-live
invariant-loop-live l = AreLive l.table l.live.keys

abbrev pub decreases-loop-live : goal.decreases-loop-live
decreases-loop-live l = 2 ^ 63 - length l.live.keys
