use Rattle.std.proofs.Common.{take}
use Rattle.lists.specs.Lists.{Has}
use Rattle.call_side.specs.Search.{Came}
use Rattle.call_side.proofs.search.add_all.Given as goal

abbrev pub invariant-loop-first : goal.invariant-loop-first
invariant-loop-first l = Came (λ pair. Has (take l.first-index l.firsts) pair.first × Has l.seconds pair.second) l.origin l.initial.seen.pairs.keys l.initial.seen.origins.items l.seen.pairs.keys l.seen.origins.items
