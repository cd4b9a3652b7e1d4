use Rattle.std.proofs.Common.{◌≡◌, take}
use Rattle.lists.specs.Lists.{Has}
use Rattle.call_side.specs.Search.{Came}
use Rattle.call_side.proofs.search.add_row.Given as goal

abbrev pub invariant-loop-second : goal.invariant-loop-second
invariant-loop-second l = Came (λ pair. (pair.first ≡ l.first) × Has (take l.second-index l.seconds) pair.second) l.origin l.initial.seen.pairs.keys l.initial.seen.origins.items l.seen.pairs.keys l.seen.origins.items
