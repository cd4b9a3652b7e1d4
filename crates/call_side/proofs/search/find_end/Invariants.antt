use Rattle.std.proofs.Common.{◌-◌, ◌^◌}
use Rattle.call_side.specs.Search.{AreBegun, AreDone, IsTrail, asked}
use Rattle.call_side.proofs.search.find_end.Given as goal

abbrev pub invariant-loop-pair : goal.invariant-loop-pair
invariant-loop-pair l = record {
  trail : IsTrail (asked l.question) l.seen.pairs.keys l.seen.origins.items;
  begun : AreBegun (asked l.question) l.seen.pairs.keys;
  done : AreDone (asked l.question) l.number l.seen.pairs.keys;
}

abbrev pub decreases-loop-pair : goal.decreases-loop-pair
decreases-loop-pair l = 2 ^ 63 - l.number
