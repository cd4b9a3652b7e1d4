-- Lines with what each gives, and how long each is.
use Rattle.std.specs.Prelude.{◌≡◌, ℕ, ◌+◌, ◌≤◌, ◌<◌, ◌^◌, ◌⊎◌, List, [], ◌∷◌, ◌++◌, Option, Some, None, length, map, slice_get, slice_index_or}
use Rattle.lists.specs.Lists.{IsApart}
use Rattle.cert_rules.specs.declared.fact.Fact.{Fact}
use Rattle.cert_rules.specs.declared.line.Line.{Line}
use Rattle.cert_rules.specs.Given.{Facts}
use Rattle.cert_lines.specs.declared.keys.Known.{Known}
use Rattle.cert_lines.specs.declared.written.Note.{Note}
use Rattle.cert_lines.specs.Spread.{known_of}

-- lines, what they give, and their lengths, all by their numbers from 0
pub record Noted : Type 0 where
  pub lines : List Line
  pub given : Facts
  pub lengths : List ℕ

-- the line with the number gives the fact
abbrev pub GivesAt : Noted → ℕ → Fact → Type 0
GivesAt w i fact = slice_get w.given i ≡ Some (Some fact)

-- its length
abbrev pub length_at : Noted → ℕ → ℕ
length_at w i = slice_index_or w.lengths i 0

-- some line gives the fact, and is no longer than that
pub record IsThere (w : Noted) (fact : Fact) (most : ℕ) : Type 0 where
  pub at : ℕ
  pub gives : GivesAt w at fact
  pub short : length_at w at ≤ most

-- a line further on gives the same fact, and is no longer
pub record IsBettered (w : Noted) (i : ℕ) : Type 0 where
  pub fact : Fact
  pub gives : GivesAt w i fact
  pub further : ℕ
  pub behind : i < further
  pub again : GivesAt w further fact
  pub short : length_at w further ≤ length_at w i

-- no line that gives the fact is shorter than this one, which gives it
pub record IsShortestOf (w : Noted) (fact : Fact) (i : ℕ) : Type 0 where
  pub gives : GivesAt w i fact
  pub least : (j : ℕ) → GivesAt w j fact → length_at w i ≤ length_at w j

-- one more line
abbrev pub with_line : Noted → Line → Fact → ℕ → Noted
with_line w line fact length = record { lines = w.lines ++ line ∷ []; given = w.given ++ Some fact ∷ []; lengths = w.lengths ++ length ∷ [] }

-- The line was put last. Or it wasn't, as the fact was there, by a line that is no longer.
abbrev pub IsNotedIn : Noted → Noted → Line → Fact → ℕ → Type 0
IsNotedIn old new line fact length = ((new ≡ old) × IsThere old fact length) ⊎ ((new ≡ with_line old line fact length) × (IsThere old fact length → ⊥))

-- the fact, if there is one
abbrev pub fact_of : Option Known → Option Fact
fact_of None = None
fact_of (Some k) = Some k.fact

-- the fact with the number of the note
abbrev pub noted_fact : List Known → Note → Option Fact
noted_fact facts n = fact_of (slice_get facts n.fact)

-- what lines and notes on them mean, by the numbers of facts
abbrev pub noted_by : List Line → List Known → List Note → Noted
noted_by lines facts notes = record { lines = lines; given = map (noted_fact facts) notes; lengths = map (λ n. n.length) notes }

-- of the notes on the fact with the number this is the last, and none tells less
pub record IsBestOf (notes : List Note) (fact i : ℕ) : Type 0 where
  pub note : Note
  pub there : slice_get notes i ≡ Some note
  pub of : note.fact ≡ fact
  pub last : (j : ℕ) (n : Note) → slice_get notes j ≡ Some n → n.fact ≡ fact → (j ≤ i) × (note.length ≤ n.length)

-- each line has a note, and each fact its best one; numbers of lines from 1 have 32 bits, with one to spare
pub record AreNotes (lines : List Line) (facts : List Known) (notes : List Note) (best : List ℕ) : Type 0 where
  pub as_many : length notes ≡ length lines
  pub few : length lines + 2 < 2 ^ 32
  pub rows : length best ≡ length facts
  pub apart : IsApart facts
  pub known : (number : ℕ) (k : Known) → slice_get facts number ≡ Some k → k ≡ known_of k.fact
  pub named : (i : ℕ) (n : Note) → slice_get notes i ≡ Some n → n.fact < length facts
  pub each : (fact i : ℕ) → slice_get best fact ≡ Some i → IsBestOf notes fact i
