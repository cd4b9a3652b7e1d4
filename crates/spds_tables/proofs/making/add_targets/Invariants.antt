use Rattle.std.proofs.Common.{◌≡◌, ◌++◌, map, take}
use Rattle.spds_tables.proofs.making.add_targets.Given as goal

abbrev pub invariant-loop-jump : goal.invariant-loop-jump
invariant-loop-jump l = l.numbers.items ≡ l.initial.numbers.items ++ map (λ j. j.to.node) (take l.jump-index l.jumps)
