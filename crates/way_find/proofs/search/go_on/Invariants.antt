use Rattle.std.proofs.Common.{take}
use Rattle.lists.specs.Grown.{IsLonger}
use Rattle.way_find.specs.Seen.{AreBacks, AreBegun}
use Rattle.way_find.proofs.search.go_on.Given as goal

abbrev pub invariant-loop-step : goal.invariant-loop-step
invariant-loop-step g l = record {
  ends : AreBegun (take l.step-index l.steps) l.seen.spots.keys;
  longer : IsLonger l.fn.seen.spots.keys l.seen.spots.keys;
  backs : AreBacks (g.W.Ways.goes l.ways) l.starts l.seen.spots.keys l.seen.backs.items;
}
