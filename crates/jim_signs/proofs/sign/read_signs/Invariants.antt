use Rattle.std.proofs.Common.{◌-◌, ◌≤◌, length}
use Rattle.jim_signs.proofs.SignLemmas.{ReadSigns}
use Rattle.jim_signs.proofs.sign.read_signs.Given as goal

abbrev pub invariant-loop-lexeme : goal.invariant-loop-lexeme
invariant-loop-lexeme l = record {
  within : l.at ≤ length l.bytes;
  read : ReadSigns l.bytes l.at l.found.names l.found.signs.items;
}

abbrev pub decreases-loop-lexeme : goal.decreases-loop-lexeme
decreases-loop-lexeme l = length l.bytes - l.at
