use Rattle.std.proofs.Common.{◌≡◌, map, take}
use Rattle.cert_make.specs.Numbers.{up_to}
use Rattle.cert_make.proofs.renumber.all_anew.Given as goal

abbrev pub invariant-loop-number : goal.invariant-loop-number
invariant-loop-number l = l.found.items ≡ map (up_to l.needed) (take l.number-index l.cited)
