use Rattle.std.proofs.Common.{take}
use Rattle.link_reach.specs.Search.{AddsAll}
use Rattle.link_reach.proofs.search.add_all.Given as goal

abbrev pub invariant-loop-number : goal.invariant-loop-number
invariant-loop-number l = AddsAll (take l.number-index l.numbers) l.initial.set l.set
