use Rattle.std.proofs.Common.{take}
use Rattle.way_find.specs.Seen.{AreBacks, AreBegun}
use Rattle.way_find.proofs.search.begin.Given as goal

abbrev pub invariant-loop-start : goal.invariant-loop-start
invariant-loop-start g l = record {
  begun : AreBegun (take l.start-index l.starts) l.seen.spots.keys;
  backs : AreBacks (g.W.Ways.goes l.ways) l.starts l.seen.spots.keys l.seen.backs.items;
}
