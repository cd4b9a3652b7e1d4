use Rattle.std.proofs.Common.{◌≡◌, ◌++◌, map, take}
use Rattle.spds_tables.proofs.making.add_numbers.Given as goal

abbrev pub invariant-loop-start : goal.invariant-loop-start
invariant-loop-start l = l.numbers.items ≡ l.initial.numbers.items ++ map (λ s. s.node) (take l.start-index l.starts)
