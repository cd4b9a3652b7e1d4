-- How the tokens, the blanks and the comments of the profile are spelled, a predicate for each. Each is said of the
-- bytes from one place up to another, so that nothing is copied; the law IsSpelledAlone of Laws says that the bytes
-- between the two places decide, with the exceptions that stand there. The tokens are those of Soot's Jimple
-- (Vallée-Rai), for a fixed profile of it: limits on digits and the bytes that may stand in quotes are this project's own.
use Rattle.std.specs.Prelude.{◌≡◌, ℕ, ◌+◌, ◌<◌, ◌≤◌, ◌⊎◌, Bool, ◌==◌, nat_le, ◌&&◌, ◌||◌, not, List, [], ◌∷◌, length, slice_index, slice_range, IsTrue, IsFalse, codes}
use Rattle.std.specs.List.{list_any}
use Rattle.unicode_ident.specs.Ident.{is_xid_start, is_xid_continue}
use Rattle.jim_text.specs.Chars.{CharAt, Run, Has}
use Rattle.jim_text.specs.Words.{is_in, marks, is_reserved}
use Rattle.jim_text.specs.declared.Kind.{Kind}
use Rattle.jim_text.specs.declared.Kind.TheVariants.{Word, Name, Number, Text, At, Mark}

-- space, tab, line feed, carriage return, form feed
abbrev pub is_blank : ℕ → Bool
is_blank c = (c == 32) || (c == 9) || (c == 10) || (c == 13) || (c == 12)

-- a character within a line
abbrev pub is_in_line : ℕ → Bool
is_in_line c = not (c == 10)

-- a star and a slash stand at a place
abbrev pub ClosesAt : List ℕ → ℕ → Type 0
ClosesAt bytes at = (slice_index bytes at ≡ 42) × (slice_index bytes (at + 1) ≡ 47)

-- characters at none of which `*/` begins
pub data Unclosed (bytes : List ℕ) : ℕ → ℕ → Type 0 where
  ends : {from to : ℕ} → from ≡ to → Unclosed bytes from to
  goes : {from c next to : ℕ} → ¬ (ClosesAt bytes from) → CharAt bytes from c next → Unclosed bytes next to → Unclosed bytes from to

-- `//` and the rest of the line, or `/*`, the shortest text, and `*/`
pub data Comment (bytes : List ℕ) : ℕ → ℕ → Type 0 where
  line : {from to : ℕ} → slice_index bytes from ≡ 47 → slice_index bytes (from + 1) ≡ 47
      → Run is_in_line bytes (from + 2) to → (to ≡ length bytes) ⊎ (slice_index bytes to ≡ 10) → Comment bytes from to
  block : {from close to : ℕ} → slice_index bytes from ≡ 47 → slice_index bytes (from + 1) ≡ 42
      → Unclosed bytes (from + 2) close → ClosesAt bytes close → to ≡ close + 2 → Comment bytes from to

-- 0 to 9
abbrev pub is_digit : ℕ → Bool
is_digit b = nat_le 48 b && nat_le b 57

-- 0 to 9, A to F, a to f
abbrev pub is_hex : ℕ → Bool
is_hex b = is_digit b || (nat_le 65 b && nat_le b 70) || (nat_le 97 b && nat_le b 102)

-- 1 to `most` digits of a kind
pub record Digits (is : ℕ → Bool) (most : ℕ) (bytes : List ℕ) (from to : ℕ) : Type 0 where
  pub some : from < to
  pub few : to ≤ from + most
  pub each : (k : ℕ) → from ≤ k → k < to → IsTrue (is (slice_index bytes k))

-- nothing, or one byte that passes a test
abbrev pub Optional : (ℕ → Bool) → List ℕ → ℕ → ℕ → Type 0
Optional is bytes from to = (to ≡ from) ⊎ ((to ≡ from + 1) × IsTrue (is (slice_index bytes from)))

-- L
abbrev pub is_long : ℕ → Bool
is_long b = b == 76

-- f or F
abbrev pub is_float : ℕ → Bool
is_float b = (b == 102) || (b == 70)

-- e or E
abbrev pub is_exponent : ℕ → Bool
is_exponent b = (b == 101) || (b == 69)

-- plus or minus
abbrev pub is_sign : ℕ → Bool
is_sign b = (b == 43) || (b == 45)

-- nothing, or e or E, one sign or none, and digits
pub data Exponent (bytes : List ℕ) : ℕ → ℕ → Type 0 where
  none : {from to : ℕ} → to ≡ from → Exponent bytes from to
  power : {from sign to : ℕ} → IsTrue (is_exponent (slice_index bytes from)) → Optional is_sign bytes (from + 1) sign
      → Digits is_digit 38 bytes sign to → Exponent bytes from to

-- the four forms of a number, of which the last has three spellings: an integer, a hexadecimal one, a decimal one, and
-- what is no finite number
pub data IsNumber (bytes : List ℕ) : ℕ → ℕ → Type 0 where
  integer : {from end to : ℕ} → Digits is_digit 38 bytes from end → Optional is_long bytes end to → IsNumber bytes from to
  hexadecimal : {from end to : ℕ} → slice_index bytes from ≡ 48 → slice_index bytes (from + 1) ≡ 120
      → Digits is_hex 32 bytes (from + 2) end → Optional is_long bytes end to → IsNumber bytes from to
  decimal : {from dot fraction end to : ℕ} → Digits is_digit 38 bytes from dot → slice_index bytes dot ≡ 46
      → Digits is_digit 38 bytes (dot + 1) fraction → Exponent bytes fraction end → Optional is_float bytes end to → IsNumber bytes from to
  infinity : {from to : ℕ} → Has bytes from (codes "#Infinity") → Optional is_float bytes (from + 9) to → IsNumber bytes from to
  minus_infinity : {from to : ℕ} → Has bytes from (codes "#-Infinity") → Optional is_float bytes (from + 10) to → IsNumber bytes from to
  not_a_number : {from to : ℕ} → Has bytes from (codes "#NaN") → Optional is_float bytes (from + 4) to → IsNumber bytes from to

-- a character that stands for itself in a text
abbrev pub is_item : ℕ → Bool
is_item c = not ((c == 34) || (c == 92) || (c == 10) || (c == 13))

-- a character that may follow a backslash
abbrev pub is_escaped : ℕ → Bool
is_escaped c = not ((c == 10) || (c == 13))

-- an item of a text: a character that stands for itself, or a backslash and a character
pub data Item (bytes : List ℕ) : ℕ → ℕ → Type 0 where
  plain : {from c to : ℕ} → CharAt bytes from c to → IsTrue (is_item c) → Item bytes from to
  escape : {from c to : ℕ} → slice_index bytes from ≡ 92 → CharAt bytes (from + 1) c to → IsTrue (is_escaped c) → Item bytes from to

-- any number of items
pub data Items (bytes : List ℕ) : ℕ → ℕ → Type 0 where
  ends : {from to : ℕ} → from ≡ to → Items bytes from to
  goes : {from next to : ℕ} → Item bytes from next → Items bytes next to → Items bytes from to

-- a quote, items, a quote
pub record IsText (bytes : List ℕ) (from to : ℕ) : Type 0 where
  pub close : ℕ
  pub opened : slice_index bytes from ≡ 34
  pub items : Items bytes (from + 1) close
  pub closed : slice_index bytes close ≡ 34
  pub ends : to ≡ close + 1

-- `@this`, `@caughtexception`, or `@parameter` and 1 to 5 digits
pub data IsAt (bytes : List ℕ) : ℕ → ℕ → Type 0 where
  this : {from to : ℕ} → Has bytes from (codes "@this") → to ≡ from + 5 → IsAt bytes from to
  caught : {from to : ℕ} → Has bytes from (codes "@caughtexception") → to ≡ from + 16 → IsAt bytes from to
  parameter : {from to : ℕ} → Has bytes from (codes "@parameter") → Digits is_digit 5 bytes (from + 10) to → IsAt bytes from to

-- the marks of one byte
abbrev pub is_single : ℕ → Bool
is_single b = is_in marks (b ∷ [])

-- the marks of two bytes
abbrev pub is_double : ℕ → ℕ → Bool
is_double b c = is_in marks (b ∷ c ∷ [])

-- the mark of three bytes
abbrev pub is_triple : ℕ → ℕ → ℕ → Bool
is_triple b c d = is_in marks (b ∷ c ∷ d ∷ [])

-- a slash is a mark only where no comment could begin
abbrev pub is_bare : ℕ → ℕ → Bool
is_bare b next = not ((b == 47) && ((next == 47) || (next == 42)))

-- a mark of one, two or three bytes
pub data IsMark (bytes : List ℕ) : ℕ → ℕ → Type 0 where
  single : {from to : ℕ} → to ≡ from + 1 → IsTrue (is_single (slice_index bytes from))
      → IsTrue (is_bare (slice_index bytes from) (slice_index bytes (from + 1))) → IsMark bytes from to
  double : {from to : ℕ} → to ≡ from + 2 → IsTrue (is_double (slice_index bytes from) (slice_index bytes (from + 1))) → IsMark bytes from to
  triple : {from to : ℕ} → to ≡ from + 3
      → IsTrue (is_triple (slice_index bytes from) (slice_index bytes (from + 1)) (slice_index bytes (from + 2))) → IsMark bytes from to

-- a letter by Unicode's XID_Start, a dollar or an underline
abbrev pub is_start : ℕ → Bool
is_start c = is_xid_start c || (c == 36) || (c == 95)

-- XID_Continue, a dollar, a number sign or a minus
abbrev pub is_continue : ℕ → Bool
is_continue c = is_xid_continue c || (c == 36) || (c == 35) || (c == 45)

-- < > ( ) , : ; [ ]
abbrev pub is_bracket : ℕ → Bool
is_bracket c = list_any (λ m. m == c) (codes "<>(),:;[]")

-- a character that may stand between the quotes of a component
abbrev pub is_in_quotes : ℕ → Bool
is_in_quotes c = not ((c == 39) || is_blank c || is_bracket c)

-- a component of a name, plain or quoted
pub data Component (bytes : List ℕ) : ℕ → ℕ → Type 0 where
  plain : {from c next to : ℕ} → CharAt bytes from c next → IsTrue (is_start c) → Run is_continue bytes next to → Component bytes from to
  quoted : {from close to : ℕ} → slice_index bytes from ≡ 39 → from + 1 < close → Run is_in_quotes bytes (from + 1) close
      → slice_index bytes close ≡ 39 → to ≡ close + 1 → Component bytes from to

-- one or more components, joined by dots
pub data Joined (bytes : List ℕ) : ℕ → ℕ → Type 0 where
  last : {from to : ℕ} → Component bytes from to → Joined bytes from to
  more : {from dot to : ℕ} → Component bytes from dot → slice_index bytes dot ≡ 46 → Joined bytes (dot + 1) to → Joined bytes from to

-- `<init>`, `<clinit>`, or components; a reserved word is spelled so too, and the kinds tell them apart
pub data IsName (bytes : List ℕ) : ℕ → ℕ → Type 0 where
  init : {from to : ℕ} → Has bytes from (codes "<init>") → to ≡ from + 6 → IsName bytes from to
  clinit : {from to : ℕ} → Has bytes from (codes "<clinit>") → to ≡ from + 8 → IsName bytes from to
  joined : {from to : ℕ} → Joined bytes from to → IsName bytes from to

-- the bytes from one place up to another are spelled as a token of the kind
abbrev pub Spells : Kind → List ℕ → ℕ → ℕ → Type 0
Spells Word bytes from to = IsTrue (is_reserved (slice_range bytes from to))
Spells Name bytes from to = IsName bytes from to × IsFalse (is_reserved (slice_range bytes from to))
Spells Number bytes from to = IsNumber bytes from to
Spells Text bytes from to = IsText bytes from to
Spells At bytes from to = IsAt bytes from to
Spells Mark bytes from to = IsMark bytes from to
