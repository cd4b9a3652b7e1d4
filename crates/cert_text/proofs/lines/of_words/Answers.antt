use Rattle.std.proofs.Common.{arith, inl, inr, rules}
use Rattle.cert_text.proofs.LineWords.{five_iff, no_line}
use Rattle.cert_text.proofs.lines.of_words.Goals as goal
use Rattle.cert_text.proofs.lines.of_words.Goals.{in_default-via-then-words-lt3, in_default-via-else-words-lt3+else-words-lt4+else-words-lt5+else-words-lt6}

pub returns-in-len5 : goal.returns-in-len5
returns-in-len5 c = five_iff c.args.words.now _ _ _ _ _ c.of_five.result (omega arith) c.of_five.ensures

pub returns-in_default : goal.returns-in_default
returns-in_default c = elim c.in_default.branch [
  | in_default-via-then-words-lt3 w ↦ no_line c.args.words.now (inl (first_of (search rules, grind arith)))
  | in_default-via-else-words-lt3+else-words-lt4+else-words-lt5+else-words-lt6 w ↦ no_line c.args.words.now (inr (first_of (search rules, grind arith)))
]
