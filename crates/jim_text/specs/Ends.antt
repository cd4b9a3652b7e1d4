-- What the small functions of the lexer find. No clause of a public function speaks of these.
use Rattle.std.specs.Prelude.{◌≡◌, ℕ, ◌+◌, ◌<◌, ◌≤◌, Bool, nat_le, ◌==◌, ◌||◌, List, length, slice_index, IsTrue, IsFalse}
use Rattle.std.specs.Char.{is_ascii_alphabetic}
use Rattle.jim_text.specs.declared.Kind.{Kind}
use Rattle.jim_text.specs.declared.Token.{Token}
use Rattle.jim_text.specs.declared.chars.Class.{Class}
use Rattle.jim_text.specs.declared.chars.Class.TheVariants.{InLine, Continue, Quoted}
use Rattle.jim_text.specs.declared.number.Base.{Base}
use Rattle.jim_text.specs.declared.number.Base.TheVariants.{Decimal, Hexadecimal}
use Rattle.jim_text.specs.declared.number.Letter.{Letter}
use Rattle.jim_text.specs.declared.number.Letter.TheVariants.{Long, Float, Sign}
use Rattle.jim_text.specs.Spelling.{is_in_line, is_continue, is_in_quotes, is_digit, is_hex, is_long, is_float, is_sign, Optional, IsName, Spells}

abbrev pub is_in : Class → ℕ → Bool
is_in InLine c = is_in_line c
is_in Continue c = is_continue c
is_in Quoted c = is_in_quotes c

abbrev pub is_letter : Letter → ℕ → Bool
is_letter Long b = is_long b
is_letter Float b = is_float b
is_letter Sign b = is_sign b

abbrev pub is_digit_of : Base → ℕ → Bool
is_digit_of Decimal b = is_digit b
is_digit_of Hexadecimal b = is_hex b

-- a digit or a number sign, with which a number begins
abbrev pub is_number_lead : ℕ → Bool
is_number_lead b = is_digit b || (b == 35)

-- the digits from one place to another, where no further digit stands or the limit is reached
pub record DigitsEnd (is : ℕ → Bool) (most : ℕ) (bytes : List ℕ) (from to : ℕ) : Type 0 where
  pub low : from ≤ to
  pub few : to ≤ from + most
  pub each : (k : ℕ) → from ≤ k → k < to → IsTrue (is (slice_index bytes k))
  pub stop : to < from + most → IsFalse (is (slice_index bytes to))

-- the bytes with which a component may begin
abbrev pub is_lead : ℕ → Bool
is_lead b = is_ascii_alphabetic b || (b == 36) || (b == 95) || (b == 39) || nat_le 128 b

-- the place after a byte that may stand at a place
pub record OptionalEnd (is : ℕ → Bool) (bytes : List ℕ) (from to : ℕ) : Type 0 where
  pub spelled : Optional is bytes from to
  pub longest : (k : ℕ) → Optional is bytes from k → k ≤ to
  pub within : to ≤ length bytes

-- the greatest place up to which something is spelled, or the place where it would begin
pub record IsEnd (P : ℕ → Type 0) (from len to : ℕ) : Type 0 where
  pub low : from ≤ to
  pub within : to ≤ len
  pub spelled : from < to → P to
  pub longest : (k : ℕ) → P k → k ≤ to

-- a token of some bytes with these parts
pub record IsMade (kind : Kind) (from to : ℕ) (token : Token) : Type 0 where
  pub some : ¬ (from ≡ to)
  pub the_kind : token.kind ≡ kind
  pub the_from : token.from ≡ from
  pub the_to : token.to ≡ to

-- the longest name at a place, reserved or not, as a token
pub record IsNameToken (bytes : List ℕ) (at : ℕ) (token : Token) : Type 0 where
  pub the_from : token.from ≡ at
  pub some : at < token.to
  pub within : token.to ≤ length bytes
  pub name : IsName bytes at token.to
  pub spelled : Spells token.kind bytes at token.to
  pub longest : (k : ℕ) → IsName bytes at k → k ≤ token.to
