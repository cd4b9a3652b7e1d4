-- The tokens of a text, and the least place at which tokens leave the grammar.
use Rattle.std.specs.Prelude.{◌≡◌, ℕ, ◌+◌, ◌<◌, ◌≤◌, List, [], ◌++◌, take, length}
use Rattle.jim_signs.specs.declared.seen.Sign.{Sign}
use Rattle.jim_grammar.specs.Expressions.{Tree, spell}
use Rattle.jim_grammar.specs.Grammar.{program}

-- the tokens are those of a text: some tree of the grammar spells them
pub record Derives (signs : List Sign) : Type 0 where
  pub tree : Tree program
  pub spells : spell program tree [] ≡ signs

-- no text begins so
abbrev pub Refused : List Sign → Type 0
Refused p = (more : List Sign) → Derives (p ++ more) → ⊥

-- at is the least place such that no text begins with the tokens up to and with the one there,
-- or the number of the tokens where there is no such place and the tokens are no text
pub record Least (signs : List Sign) (at : ℕ) : Type 0 where
  pub within : at ≤ length signs
  pub viable : (more : List Sign) × Derives (take at signs ++ more)
  pub refused : at < length signs → Refused (take (at + 1) signs)
  pub whole : Derives signs → ⊥
