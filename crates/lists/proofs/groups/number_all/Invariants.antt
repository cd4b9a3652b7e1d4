use Rattle.std.proofs.Common.{take}
use Rattle.lists.specs.Groups.{IsNumberedAll}
use Rattle.lists.proofs.groups.number_all.Given as goal

abbrev pub invariant-loop-keyed : goal.invariant-loop-keyed
invariant-loop-keyed g l = IsNumberedAll g.K.PartialEq.eq (take l.keyed-index l.items) l.numbers.keys l.pairs.items
