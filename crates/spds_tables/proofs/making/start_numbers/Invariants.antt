use Rattle.std.proofs.Common.{◌≡◌, map, take}
use Rattle.spds_tables.specs.Parts.{start_nodes}
use Rattle.spds_tables.proofs.making.start_numbers.Given as goal

abbrev pub invariant-loop-row : goal.invariant-loop-row
invariant-loop-row l = l.numbers.items ≡ start_nodes (map (λ v. v.items) (take l.row-index l.starts))
