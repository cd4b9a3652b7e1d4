use Rattle.std.proofs.Common.{◌≡◌, length}
use Rattle.link_program.proofs.Increasing.{HasPlaces}
use Rattle.link_program.proofs.numbering.Numbering.new.Given as goal

abbrev pub invariant-loop-number : goal.invariant-loop-number
invariant-loop-number l = record {
  len : length l.numbers.items ≡ l.row_count;
  places : HasPlaces l.row-items l.number l.numbers.items;
}
