use Rattle.std.proofs.Common.{ℕ, ◌≡◌, ◌<◌, ◌-◌, ◌^◌, ◌≤◌, Some, length, slice_get}
use Rattle.way_find.specs.Seen.{AreBacks, AreBegun, IsClosed}
use Rattle.way_find.proofs.search.find_goal.Given as goal

abbrev pub invariant-loop-at : goal.invariant-loop-at
invariant-loop-at g l = record {
  within : l.at ≤ length l.seen.spots.keys;
  backs : AreBacks (g.W.Ways.goes l.ways) l.starts l.seen.spots.keys l.seen.backs.items;
  begun : AreBegun l.starts l.seen.spots.keys;
  closed : IsClosed (g.W.Ways.goes l.ways) l.seen.spots.keys l.at;
  none : (i : ℕ) (v : _) → i < l.at → slice_get l.seen.spots.keys i ≡ Some v → g.W.Ways.is_goal l.ways v → ⊥;
}

abbrev pub decreases-loop-at : goal.decreases-loop-at
decreases-loop-at g l = 2 ^ 32 - l.at
