use Rattle.std.proofs.Common.{◌≡◌, map, take}
use Rattle.rule_cells.specs.Renamed.{number_in, renamed}
use Rattle.rule_cells.proofs.numbers.renumber.Given as goal

abbrev pub invariant-loop-i : goal.invariant-loop-i
invariant-loop-i g l = l.few.items ≡ map (renamed (number_in l.numbers)) (take l.i l.rules)
