use Rattle.std.proofs.Common.{ℕ, ◌-◌, ◌≤◌, List, length}
use Rattle.jim_text.specs.declared.Token.{Token}
use Rattle.jim_text.specs.Lexes.{Reads}
use Rattle.jim_text.proofs.lexer.blanks_end.Given as goal

abbrev pub invariant-loop-end : goal.invariant-loop-end
invariant-loop-end l = record {
  low : l.at ≤ l.end;
  within : l.end ≤ length l.bytes;
  read : (to : ℕ) (tokens : List Token) → Reads l.bytes l.end to tokens → Reads l.bytes l.at to tokens;
}

abbrev pub decreases-loop-end : goal.decreases-loop-end
decreases-loop-end l = length l.bytes - l.end
