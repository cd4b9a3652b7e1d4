use Rattle.std.proofs.Common.{ℕ, ◌-◌, ◌≤◌, List, length}
use Rattle.jim_text.specs.declared.Token.{Token}
use Rattle.jim_text.specs.Lexes.{Reads}
use Rattle.jim_text.proofs.lexer.next_token.Given as goal

abbrev pub invariant-loop-at : goal.invariant-loop-at
invariant-loop-at l = record {
  low : l.from ≤ l.at;
  within : l.at ≤ length l.bytes;
  read : (to : ℕ) (tokens : List Token) → Reads l.bytes l.at to tokens → Reads l.bytes l.from to tokens;
}

abbrev pub decreases-loop-at : goal.decreases-loop-at
decreases-loop-at l = length l.bytes - l.at
