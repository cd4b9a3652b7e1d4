use Rattle.std.proofs.Common.{take}
use Rattle.lists.specs.Grown.{IsGrownBy}
use Rattle.lists.specs.Lists.{Has}
use Rattle.cert_make.proofs.needs.add_all.Given as goal

abbrev pub invariant-loop-number : goal.invariant-loop-number
invariant-loop-number l = IsGrownBy (Has (take l.number-index l.numbers)) l.initial.found.keys l.found.keys
