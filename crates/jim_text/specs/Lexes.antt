-- The one list of tokens that bytes have.
use Rattle.std.specs.Prelude.{◌≡◌, ℕ, ◌+◌, ◌<◌, ◌≤◌, List, [], ◌∷◌, length, slice_index, slice_range, IsTrue}
use Rattle.jim_text.specs.declared.Ahead.{Ahead}
use Rattle.jim_text.specs.declared.Kind.{Kind}
use Rattle.jim_text.specs.declared.Kind.TheVariants as kind
use Rattle.jim_text.specs.declared.lead.Lead.{Lead}
use Rattle.jim_text.specs.declared.lead.Lead.TheVariants as lead
use Rattle.jim_text.specs.declared.Token.{Token}
use Rattle.jim_text.specs.declared.LexError.{LexError}
use Rattle.jim_text.specs.declared.LexError.TheVariants.{BadText, NoMemory}
use Rattle.jim_text.specs.Spelling.{is_blank, Comment, Spells}
use Rattle.jim_text.specs.Words.{look_up, words, marks}

-- bytes of the text, at least one, are spelled as a token of the kind
pub record Begins (bytes : List ℕ) (kind : Kind) (from to : ℕ) : Type 0 where
  pub some : from < to
  pub within : to ≤ length bytes
  pub spelled : Spells kind bytes from to

-- a token's own bytes are spelled as its kind
abbrev pub IsSpelled : List ℕ → Token → Type 0
IsSpelled bytes token = Begins bytes token.kind token.from token.to

-- the token stands at its place, and no token that begins there is longer
pub record IsToken (bytes : List ℕ) (token : Token) : Type 0 where
  pub begins : IsSpelled bytes token
  pub longest : (kind : Kind) (to : ℕ) → Begins bytes kind token.from to → to ≤ token.to

-- from one place to another the bytes are blanks, comments and these tokens, in order
pub data Reads (bytes : List ℕ) : ℕ → ℕ → List Token → Type 0 where
  ends : {from to : ℕ} → from ≡ to → Reads bytes from to []
  blank : {from to : ℕ} {tokens : List Token} → from < length bytes → IsTrue (is_blank (slice_index bytes from))
      → Reads bytes (from + 1) to tokens → Reads bytes from to tokens
  comment : {from next to : ℕ} {tokens : List Token} → Comment bytes from next → Reads bytes next to tokens → Reads bytes from to tokens
  token : {from to : ℕ} {tokens : List Token} (first : Token) → first.from ≡ from → IsToken bytes first
      → Reads bytes first.to to tokens → Reads bytes from to (first ∷ tokens)

-- the bytes are these tokens, with blanks and comments between them
abbrev pub Lexes : List ℕ → List Token → Type 0
Lexes bytes tokens = Reads bytes 0 (length bytes) tokens

-- between two places the tokens stand in order, each of a byte at least, and none over another
abbrev pub InOrder : ℕ → List Token → ℕ → Type 0
InOrder from [] to = from ≤ to
InOrder from (first ∷ rest) to = (from ≤ first.from) × (first.from < first.to) × InOrder first.to rest to

-- no token begins at a place
abbrev pub NoTokenAt : List ℕ → ℕ → Type 0
NoTokenAt bytes at = (kind : Kind) (to : ℕ) → ¬ (Begins bytes kind at to)

-- the longest token that begins at a place
abbrev pub TokenAt : List ℕ → ℕ → Token → Type 0
TokenAt bytes at here = (here.from ≡ at) × IsToken bytes here

-- A token's class: that of a word or a mark is the one that its table gives, and a name, a number and a text have one each. A word with an at sign is
-- told by its text, so nothing is said here.
abbrev pub IsLead : Kind → List ℕ → Lead → Type 0
IsLead kind.Word text l = l ≡ look_up words text
IsLead kind.Mark text l = l ≡ look_up marks text
IsLead kind.Name text l = l ≡ lead.Name
IsLead kind.Number text l = l ≡ lead.Number
IsLead kind.Text text l = l ≡ lead.Text
IsLead kind.At text l = Unit {0}

-- the class is that of the token of these bytes
abbrev pub IsClassed : List ℕ → Lead → Token → Type 0
IsClassed bytes l here = IsLead here.kind (slice_range bytes here.from here.to) l

-- no blank, comment or token begins at a place
pub record NoneBegins (bytes : List ℕ) (at : ℕ) : Type 0 where
  pub blank : at < length bytes → ¬ (IsTrue (is_blank (slice_index bytes at)))
  pub comment : (to : ℕ) → ¬ (Comment bytes at to)
  pub token : NoTokenAt bytes at

-- up to a place before the end the bytes are blanks, comments and tokens, and none begins there: the first such place,
-- since what is read before it is read in one way
pub record StopsAt (bytes : List ℕ) (at : ℕ) : Type 0 where
  pub tokens : List Token
  pub reached : Reads bytes 0 at tokens
  pub before : at < length bytes
  pub stuck : NoneBegins bytes at

-- bytes without tokens, and the place that an error names
abbrev pub Explains : List ℕ → LexError → Type 0
Explains bytes (BadText at) = ((tokens : List Token) → ¬ (Lexes bytes tokens)) × StopsAt bytes at
Explains bytes NoMemory = Unit {0}

-- from a place on the bytes are blanks and comments, and behind them a token, and go on behind it
pub record IsNext (bytes : List ℕ) (from : ℕ) (next : Token) : Type 0 where
  pub spelled : IsSpelled bytes next
  pub low : from < next.to
  pub reads : (to : ℕ) (rest : List Token) → Reads bytes next.to to rest → Reads bytes from to (next ∷ rest)

-- what stands behind a place
abbrev pub IsAhead : List ℕ → ℕ → Ahead → Type 0
IsAhead bytes from (Ahead.Token next) = IsNext bytes from next.token × IsClassed bytes next.lead next.token
IsAhead bytes from Ahead.End = Reads bytes from (length bytes) []
IsAhead bytes from (Ahead.Nothing at) = Reads bytes from at [] × (at < length bytes) × NoneBegins bytes at
