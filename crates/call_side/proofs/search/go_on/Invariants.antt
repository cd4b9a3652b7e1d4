use Rattle.std.proofs.Common.{ℕ, take}
use Rattle.lists.specs.Lists.{Has}
use Rattle.call_side.specs.Search.{IsLedOn, IsTrail, asked}
use Rattle.call_side.specs.Trails.{AreKept}
use Rattle.call_side.proofs.search.go_on.Given as goal

abbrev pub invariant-loop-mark : goal.invariant-loop-mark
invariant-loop-mark l = record {
  kept : AreKept l.initial.seen.pairs.keys l.seen.pairs.keys;
  trail : IsTrail (asked l.question) l.seen.pairs.keys l.seen.origins.items;
  led : (mark : ℕ) → Has (take l.mark-index l.mark-items) mark → IsLedOn (asked l.question) l.pair mark l.seen.pairs.keys;
}
