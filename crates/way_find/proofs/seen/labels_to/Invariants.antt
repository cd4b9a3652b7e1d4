use Rattle.std.proofs.Common.{◌≤◌, length}
use Rattle.way_find.proofs.Found.{Completes}
use Rattle.way_find.proofs.seen.labels_to.Given as goal

abbrev pub invariant-loop-left : goal.invariant-loop-left
invariant-loop-left g l = record {
  within : l.left ≤ length l.seen.spots.keys;
  rest : Completes (g.W.Ways.goes l.ways) l.starts l.seen.spots.keys l.last l.left l.labels.items;
}

abbrev pub decreases-loop-left : goal.decreases-loop-left
decreases-loop-left g l = l.left
