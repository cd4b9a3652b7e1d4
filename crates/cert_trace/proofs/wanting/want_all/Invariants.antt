use Rattle.std.proofs.Common.{◌≡◌, ℕ, ◌-◌, ◌<◌, ◌^◌, Some, slice_get}
use Rattle.cert_lines.specs.declared.keys.Spot.{Spot}
use Rattle.cert_work.specs.Wants.{IsWider}
use Rattle.cert_trace.specs.Settled.{IsFollowedBack}
use Rattle.cert_trace.proofs.wanting.want_all.Given as goal

abbrev pub invariant-loop-at : goal.invariant-loop-at
invariant-loop-at l = record {
  wider : IsWider l.fn.wants l.wants;
  followed : (i : ℕ) (spot : Spot) → i < l.at → slice_get l.wants.spots.keys i ≡ Some spot → IsFollowedBack l.wants l.grounds spot;
}

abbrev pub decreases-loop-at : goal.decreases-loop-at
decreases-loop-at l = 2 ^ 32 - l.at
