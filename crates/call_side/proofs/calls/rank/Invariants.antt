use Rattle.std.proofs.Common.{◌≡◌, ◌-◌, ◌<◌, ◌≤◌, ℕ, Some, length, slice_get}
use Rattle.link_sites.specs.declared.place.Place.{Place}
use Rattle.link_sites.specs.Places.{ComesBefore}
use Rattle.call_side.proofs.calls.rank.Given as goal

abbrev pub invariant-loop-low : goal.invariant-loop-low
invariant-loop-low l = record {
  order : l.low ≤ l.high;
  within : l.high ≤ length l.places;
  before : (k : ℕ) (x : Place) → k < l.low → slice_get l.places k ≡ Some x → ComesBefore x l.place;
  behind : (k : ℕ) (x : Place) → l.high ≤ k → slice_get l.places k ≡ Some x → ComesBefore x l.place → ⊥;
}

abbrev pub decreases-loop-low : goal.decreases-loop-low
decreases-loop-low l = l.high - l.low
