-- What holds of all bytes.
use Rattle.std.specs.Prelude.{◌≡◌, ℕ, ◌+◌, ◌≤◌, List, length, slice_index, slice_range, IsTrue}
use Rattle.jim_text.specs.declared.Kind.{Kind}
use Rattle.jim_text.specs.declared.Kind.TheVariants.{Word, Name, Number, Text, At, Mark}
use Rattle.jim_text.specs.declared.Token.{Token}
use Rattle.jim_text.specs.Spelling.{is_bare, Spells}
use Rattle.jim_text.specs.Lexes.{Lexes, StopsAt}

-- bytes have at most one list of tokens
abbrev pub HasOneList : Type 0
HasOneList = (bytes : List ℕ) (one two : List Token) → Lexes bytes one → Lexes bytes two → one ≡ two

-- at most one place is the first at which nothing begins
abbrev pub HasOneStop : Type 0
HasOneStop = (bytes : List ℕ) (one two : ℕ) → StopsAt bytes one → StopsAt bytes two → one ≡ two

-- and bytes with such a place have no tokens
abbrev pub StopsOrLexes : Type 0
StopsOrLexes = (bytes : List ℕ) (at : ℕ) → StopsAt bytes at → (tokens : List Token) → ¬ (Lexes bytes tokens)

-- what a spelling looks at beyond its end: the mark `/` at the next byte, and nothing else
abbrev pub IsFree : Kind → List ℕ → ℕ → Type 0
IsFree Mark bytes from = IsTrue (is_bare (slice_index bytes from) (slice_index bytes (from + 1)))
IsFree Word bytes from = Unit {0}
IsFree Name bytes from = Unit {0}
IsFree Number bytes from = Unit {0}
IsFree Text bytes from = Unit {0}
IsFree At bytes from = Unit {0}

-- bytes are spelled as a kind by themselves
abbrev pub IsSpelledAlone : Kind → List ℕ → Type 0
IsSpelledAlone kind text = Spells kind text 0 (length text)

-- what is spelled in a text is spelled by itself
abbrev pub SpellsAlone : Type 0
SpellsAlone = (kind : Kind) (bytes : List ℕ) (from to : ℕ) → from ≤ to → to ≤ length bytes → Spells kind bytes from to
    → IsSpelledAlone kind (slice_range bytes from to)

-- what is spelled by itself is spelled in a text, the mark `/` where no comment could begin
abbrev pub SpellsWithin : Type 0
SpellsWithin = (kind : Kind) (bytes : List ℕ) (from to : ℕ) → from ≤ to → to ≤ length bytes → IsFree kind bytes from
    → IsSpelledAlone kind (slice_range bytes from to) → Spells kind bytes from to
