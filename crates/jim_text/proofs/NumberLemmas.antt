-- The longest number at a place.
use Rattle.std.proofs.Common.{◌≡◌, ℕ, ◌+◌, ◌<◌, ◌≤◌, ◌⊎◌, Bool, true, false, List, length, get_or, refl, sym, ap, ◌∙◌, subst, inl, inr, arith, true≢false, codes}
use Rattle.jim_text.specs.Chars.{Has}
use Rattle.jim_text.specs.Spelling.{is_digit, is_hex, is_long, is_float, is_exponent, is_sign, Digits, Optional, Exponent, IsNumber}
use Rattle.jim_text.specs.Spelling.Exponent.{none, power}
use Rattle.jim_text.specs.Spelling.IsNumber.{integer, hexadecimal, decimal, infinity, minus_infinity, not_a_number}
use Rattle.jim_text.specs.Ends.{DigitsEnd, OptionalEnd, IsEnd}
use Rattle.jim_text.proofs.DigitLemmas.{order, has_byte, has_first, found_digits, digits_le, digits_shorter, digits_same, no_digits, optional_low}

-- no digit is a sign
digit_no_sign : (b : ℕ) → is_digit b ≡ true → is_sign b ≡ false
digit_no_sign b h = grind arith

-- no digit is the letter of an exponent
digit_no_exponent : (b : ℕ) → is_digit b ≡ true → is_exponent b ≡ false
digit_no_exponent b h = grind arith

-- digits begin with a digit
first_digit : {is : ℕ → Bool} {most : ℕ} {bytes : List ℕ} {from to : ℕ} → Digits is most bytes from to → is (get_or bytes from 0) ≡ true
first_digit {is} {most} {bytes} {from} digits = digits.each from (omega arith) digits.some

-- of an optional byte and what follows, the place is known where what follows begins with no such byte
optional_same : {is : ℕ → Bool} {bytes : List ℕ} {from end to : ℕ} → OptionalEnd is bytes from end → Optional is bytes from to
    → ¬ (is (get_or bytes to 0) ≡ true) → to ≡ end
optional_same {is} {bytes} {from} {end} {to} found (inr p) other = omega (arith, p.0, found.longest to (inr p), (optional_low is bytes found.spelled).1)
optional_same {is} {bytes} {from} {end} {to} found (inl e) other = by found.spelled
  where
    by : Optional is bytes from end → to ≡ end
    by (inl f) = e ∙ sym f
    by (inr q) = absurd (other (ap (λ k. is (get_or bytes k 0)) e ∙ q.1))

-- the sign before digits is the one found
sign_same : {bytes : List ℕ} {from end to last : ℕ} → OptionalEnd is_sign bytes from end → Optional is_sign bytes from to → Digits is_digit 38 bytes to last → to ≡ end
sign_same {bytes} {from} {end} {to} found optional digits =
    optional_same found optional (λ h. true≢false (sym h ∙ digit_no_sign (get_or bytes to 0) (first_digit digits)))

-- no exponent begins with another byte
pub exponent_none : {bytes : List ℕ} {at : ℕ} → at ≤ length bytes → is_exponent (get_or bytes at 0) ≡ false → IsEnd (Exponent bytes at) at (length bytes) at
exponent_none {bytes} {at} within fails = record { low = omega arith; within = within; spelled = λ l. none refl; longest = longest }
  where
    longest : (k : ℕ) → Exponent bytes at k → k ≤ at
    longest k (none e) = omega (arith, e)
    longest k (power h optional digits) = absurd (true≢false (sym h ∙ fails))

-- no exponent is without digits
pub exponent_bare : {bytes : List ℕ} {at sign end : ℕ} → at ≤ length bytes → OptionalEnd is_sign bytes (at + 1) sign → DigitsEnd is_digit 38 bytes sign end → end ≡ sign
    → IsEnd (Exponent bytes at) at (length bytes) at
exponent_bare {bytes} {at} {sign} {end} within signed found empty = record { low = omega arith; within = within; spelled = λ l. none refl; longest = longest }
  where
    longest : (k : ℕ) → Exponent bytes at k → k ≤ at
    longest k (none e) = omega (arith, e)
    longest k (power h optional digits) = absurd (no_digits found empty (subst (λ m. Digits is_digit 38 bytes m k) (sign_same signed optional digits) digits))

-- an exponent with the digits found is the longest
pub exponent_whole : {bytes : List ℕ} {at sign end : ℕ} → is_exponent (get_or bytes at 0) ≡ true → OptionalEnd is_sign bytes (at + 1) sign → DigitsEnd is_digit 38 bytes sign end
    → ¬ (end ≡ sign) → end ≤ length bytes → IsEnd (Exponent bytes at) at (length bytes) end
exponent_whole {bytes} {at} {sign} {end} e signed found some within = record {
  low = omega (arith, (optional_low is_sign bytes signed.spelled).0, found.low);
  within = within;
  spelled = λ l. power e signed.spelled (found_digits found (omega (arith, found.low, some)));
  longest = longest;
}
  where
    longest : (k : ℕ) → Exponent bytes at k → k ≤ end
    longest k (none z) = omega (arith, z, (optional_low is_sign bytes signed.spelled).0, found.low)
    longest k (power h optional digits) = digits_le found (subst (λ m. Digits is_digit 38 bytes m k) (sign_same signed optional digits) digits)

-- a place before the last digit, and one byte more
short : {is : ℕ → Bool} (bytes : List ℕ) {end last to : ℕ} → end ≤ last → OptionalEnd is bytes last to → (k : ℕ) → Optional is bytes end k → k ≤ to
short {is} bytes {end} {last} {to} below found k optional = by (order end last)
  where
    by : (end < last) ⊎ (last ≤ end) → k ≤ to
    by (inl less) = omega (arith, (optional_low is bytes optional).1, (optional_low is bytes found.spelled).0)
    by (inr same) = let e : end ≡ last = omega (arith, below, same) in found.longest k (subst (λ m. Optional is bytes m k) e optional)

-- a number sign is no digit
sharp_digit : {bytes : List ℕ} {at to : ℕ} → get_or bytes at 0 ≡ 35 → ¬ (Digits is_digit 38 bytes at to)
sharp_digit {bytes} {at} {to} e digits = true≢false (sym (first_digit digits) ∙ ap is_digit e)

module _ {bytes : List ℕ} {at : ℕ} (within : at < length bytes) where
  -- no number begins where neither a digit nor a number sign stands
  pub number_none : {end : ℕ} → ¬ (get_or bytes at 0 ≡ 35) → DigitsEnd is_digit 38 bytes at end → end ≡ at → IsEnd (IsNumber bytes at) at (length bytes) at
  number_none {end} other found empty = record { low = omega arith; within = omega arith; spelled = λ l. absurd (omega (arith, l)); longest = longest }
    where
      longest : (k : ℕ) → IsNumber bytes at k → k ≤ at
      longest k (integer digits optional) = absurd (no_digits found empty digits)
      longest k (hexadecimal zero x digits optional) =
          absurd (true≢false (sym (ap is_digit zero) ∙ ap (λ k. is_digit (get_or bytes k 0)) (sym empty) ∙ found.stop (omega (arith, empty))))
      longest k (decimal digits dot fraction exponent optional) = absurd (no_digits found empty digits)
      longest k (infinity h optional) = absurd (other (has_first bytes at (codes "#Infinity") h (omega arith)))
      longest k (minus_infinity h optional) = absurd (other (has_first bytes at (codes "#-Infinity") h (omega arith)))
      longest k (not_a_number h optional) = absurd (other (has_first bytes at (codes "#NaN") h (omega arith)))

  -- digits with a point and further digits
  pub number_decimal : {dot fraction end to : ℕ} → ¬ (get_or bytes at 0 ≡ 35) → (get_or bytes at 0 ≡ 48 → ¬ (get_or bytes (at + 1) 0 ≡ 120))
      → DigitsEnd is_digit 38 bytes at dot → ¬ (dot ≡ at) → get_or bytes dot 0 ≡ 46
      → DigitsEnd is_digit 38 bytes (dot + 1) fraction → dot + 1 < fraction
      → IsEnd (Exponent bytes fraction) fraction (length bytes) end → OptionalEnd is_float bytes end to → IsEnd (IsNumber bytes at) at (length bytes) to
  number_decimal {dot} {fraction} {end} {to} other plain whole some point rest more exponent optional = record {
    low = omega (arith, whole.low, exponent.low, above);
    within = optional.within;
    spelled = λ l. decimal (found_digits whole (omega (arith, whole.low, some))) point (found_digits rest more) powered optional.spelled;
    longest = longest;
  }
    where
      above : end ≤ to
      above = (optional_low is_float bytes optional.spelled).0

      powered : Exponent bytes fraction end
      powered = elim (order fraction end) [ inl less ↦ exponent.spelled less | inr same ↦ none (omega (arith, same, exponent.low)) ]

      ended : {last : ℕ} {k : ℕ} → last ≡ fraction → {middle : ℕ} → Exponent bytes last middle → Optional is_float bytes middle k → k ≤ to
      ended {last} {k} e {middle} power_of optional_of =
          short bytes (exponent.longest middle (subst (λ m. Exponent bytes m middle) e power_of)) optional k optional_of

      shorter : {last : ℕ} {k : ℕ} → last < fraction → is_digit (get_or bytes last 0) ≡ true → {middle : ℕ} → Exponent bytes last middle → Optional is_float bytes middle k → k ≤ to
      shorter {last} {k} less digit (none e) optional_of = omega (arith, e, less, (optional_low is_float bytes optional_of).1, exponent.low, above)
      shorter {last} {k} less digit (power h optional digits) optional_of = absurd (true≢false (sym h ∙ digit_no_exponent (get_or bytes last 0) digit))

      longest : (k : ℕ) → IsNumber bytes at k → k ≤ to
      longest k (integer digits optional_of) = omega (arith, digits_le whole digits, (optional_low is_long bytes optional_of).1, exponent.low, above, more)
      longest k (hexadecimal zero x digits optional_of) = absurd (plain zero x)
      longest k (decimal {dot = other_dot} {fraction = last} digits other_point last_digits power_of optional_of) =
          let same : other_dot ≡ dot = digits_same whole digits (ap is_digit other_point) in
          let there : Digits is_digit 38 bytes (dot + 1) last = subst (λ m. Digits is_digit 38 bytes (m + 1) last) same last_digits in
          elim (order last fraction) [
            | inl less ↦ shorter less (digits_shorter rest there less) power_of optional_of
            | inr fine ↦ ended (omega (arith, fine, digits_le rest there)) power_of optional_of
          ]
      longest k (infinity h optional_of) = absurd (other (has_first bytes at (codes "#Infinity") h (omega arith)))
      longest k (minus_infinity h optional_of) = absurd (other (has_first bytes at (codes "#-Infinity") h (omega arith)))
      longest k (not_a_number h optional_of) = absurd (other (has_first bytes at (codes "#NaN") h (omega arith)))

  -- digits alone
  pub number_integer : {dot to : ℕ} → ¬ (get_or bytes at 0 ≡ 35) → (get_or bytes at 0 ≡ 48 → ¬ (get_or bytes (at + 1) 0 ≡ 120))
      → DigitsEnd is_digit 38 bytes at dot → ¬ (dot ≡ at) → ((last : ℕ) → get_or bytes dot 0 ≡ 46 → ¬ (Digits is_digit 38 bytes (dot + 1) last))
      → OptionalEnd is_long bytes dot to → IsEnd (IsNumber bytes at) at (length bytes) to
  number_integer {dot} {to} other plain whole some pointless optional = record {
    low = omega (arith, whole.low, (optional_low is_long bytes optional.spelled).0);
    within = optional.within;
    spelled = λ l. integer (found_digits whole (omega (arith, whole.low, some))) optional.spelled;
    longest = longest;
  }
    where
      longest : (k : ℕ) → IsNumber bytes at k → k ≤ to
      longest k (integer digits optional_of) = short bytes (digits_le whole digits) optional k optional_of
      longest k (hexadecimal zero x digits optional_of) = absurd (plain zero x)
      longest k (decimal {dot = other_dot} {fraction = last} digits point last_digits power_of optional_of) =
          let same : other_dot ≡ dot = digits_same whole digits (ap is_digit point) in
          absurd (pointless last (ap (λ m. get_or bytes m 0) (sym same) ∙ point) (subst (λ m. Digits is_digit 38 bytes (m + 1) last) same last_digits))
      longest k (infinity h optional_of) = absurd (other (has_first bytes at (codes "#Infinity") h (omega arith)))
      longest k (minus_infinity h optional_of) = absurd (other (has_first bytes at (codes "#-Infinity") h (omega arith)))
      longest k (not_a_number h optional_of) = absurd (other (has_first bytes at (codes "#NaN") h (omega arith)))

  -- a zero before an x
  zero_digits : get_or bytes at 0 ≡ 48 → get_or bytes (at + 1) 0 ≡ 120 → Digits is_digit 38 bytes at (at + 1)
  zero_digits zero x = record { some = omega arith; few = omega arith; each = λ k low high. ap (λ m. is_digit (get_or bytes m 0)) (omega (arith, low, high)) ∙ ap is_digit zero }

  -- a zero before an x is digits by itself
  one_digit : get_or bytes (at + 1) 0 ≡ 120 → {last : ℕ} → Digits is_digit 38 bytes at last → last ≡ at + 1
  one_digit x {last} digits = elim (order (at + 1) last) [
    | inl less ↦ absurd (true≢false (sym (digits.each (at + 1) (omega arith) less) ∙ ap is_digit x))
    | inr fine ↦ omega (arith, fine, digits.some)
  ]

  -- no point stands behind a zero before an x
  no_point : get_or bytes (at + 1) 0 ≡ 120 → {dot : ℕ} → Digits is_digit 38 bytes at dot → ¬ (get_or bytes dot 0 ≡ 46)
  no_point x {dot} digits point = omega (arith, point, ap (λ m. get_or bytes m 0) (one_digit x digits), x)

  -- the number is the zero alone
  pub number_zero : {end : ℕ} → get_or bytes at 0 ≡ 48 → get_or bytes (at + 1) 0 ≡ 120 → DigitsEnd is_hex 32 bytes (at + 2) end → end ≡ at + 2
      → IsEnd (IsNumber bytes at) at (length bytes) (at + 1)
  number_zero {end} zero x found empty = record {
    low = omega arith;
    within = omega arith;
    spelled = λ l. integer (zero_digits zero x) (inl refl);
    longest = longest;
  }
    where
      longest : (k : ℕ) → IsNumber bytes at k → k ≤ at + 1
      longest k (integer digits (inl e)) = omega (arith, e, one_digit x digits)
      longest k (integer digits (inr p)) =
          absurd (true≢false (sym p.1 ∙ ap (λ m. is_long (get_or bytes m 0)) (one_digit x digits) ∙ ap is_long x))
      longest k (hexadecimal zero2 x2 digits optional) = absurd (no_digits found empty digits)
      longest k (decimal digits point last_digits power_of optional_of) = absurd (no_point x digits point)
      longest k (infinity h optional_of) = absurd (omega (arith, zero, has_first bytes at (codes "#Infinity") h (omega arith)))
      longest k (minus_infinity h optional_of) = absurd (omega (arith, zero, has_first bytes at (codes "#-Infinity") h (omega arith)))
      longest k (not_a_number h optional_of) = absurd (omega (arith, zero, has_first bytes at (codes "#NaN") h (omega arith)))

  -- the number is hexadecimal
  pub number_hexadecimal : {end to : ℕ} → get_or bytes at 0 ≡ 48 → get_or bytes (at + 1) 0 ≡ 120 → DigitsEnd is_hex 32 bytes (at + 2) end → ¬ (end ≡ at + 2)
      → OptionalEnd is_long bytes end to → IsEnd (IsNumber bytes at) at (length bytes) to
  number_hexadecimal {end} {to} zero x found some optional = record {
    low = omega (arith, found.low, (optional_low is_long bytes optional.spelled).0);
    within = optional.within;
    spelled = λ l. hexadecimal zero x (found_digits found (omega (arith, found.low, some))) optional.spelled;
    longest = longest;
  }
    where
      longest : (k : ℕ) → IsNumber bytes at k → k ≤ to
      longest k (integer digits optional_of) =
          omega (arith, one_digit x digits, (optional_low is_long bytes optional_of).1, found.low, (optional_low is_long bytes optional.spelled).0)
      longest k (hexadecimal zero2 x2 digits optional_of) = short bytes (digits_le found digits) optional k optional_of
      longest k (decimal digits point last_digits power_of optional_of) = absurd (no_point x digits point)
      longest k (infinity h optional_of) = absurd (omega (arith, zero, has_first bytes at (codes "#Infinity") h (omega arith)))
      longest k (minus_infinity h optional_of) = absurd (omega (arith, zero, has_first bytes at (codes "#-Infinity") h (omega arith)))
      longest k (not_a_number h optional_of) = absurd (omega (arith, zero, has_first bytes at (codes "#NaN") h (omega arith)))

  -- the number is `#Infinity`
  pub number_infinity : {to : ℕ} → Has bytes at (codes "#Infinity") → OptionalEnd is_float bytes (at + 9) to → IsEnd (IsNumber bytes at) at (length bytes) to
  number_infinity {to} here optional = record {
    low = omega (arith, (optional_low is_float bytes optional.spelled).0);
    within = optional.within;
    spelled = λ l. infinity here optional.spelled;
    longest = longest;
  }
    where
      longest : (k : ℕ) → IsNumber bytes at k → k ≤ to
      longest k (integer digits optional_of) = absurd (sharp_digit (has_first bytes at (codes "#Infinity") here (omega arith)) digits)
      longest k (hexadecimal zero x digits optional_of) = absurd (omega (arith, zero, has_first bytes at (codes "#Infinity") here (omega arith)))
      longest k (decimal digits point last_digits power_of optional_of) = absurd (sharp_digit (has_first bytes at (codes "#Infinity") here (omega arith)) digits)
      longest k (infinity h optional_of) = optional.longest k optional_of
      longest k (minus_infinity h optional_of) =
          absurd (omega (arith, has_byte bytes at (codes "#Infinity") here 1 (omega arith), has_byte bytes at (codes "#-Infinity") h 1 (omega arith)))
      longest k (not_a_number h optional_of) =
          absurd (omega (arith, has_byte bytes at (codes "#Infinity") here 1 (omega arith), has_byte bytes at (codes "#NaN") h 1 (omega arith)))

  -- the number is `#-Infinity`
  pub number_minus_infinity : {to : ℕ} → Has bytes at (codes "#-Infinity") → OptionalEnd is_float bytes (at + 10) to → IsEnd (IsNumber bytes at) at (length bytes) to
  number_minus_infinity {to} here optional = record {
    low = omega (arith, (optional_low is_float bytes optional.spelled).0);
    within = optional.within;
    spelled = λ l. minus_infinity here optional.spelled;
    longest = longest;
  }
    where
      longest : (k : ℕ) → IsNumber bytes at k → k ≤ to
      longest k (integer digits optional_of) = absurd (sharp_digit (has_first bytes at (codes "#-Infinity") here (omega arith)) digits)
      longest k (hexadecimal zero x digits optional_of) = absurd (omega (arith, zero, has_first bytes at (codes "#-Infinity") here (omega arith)))
      longest k (decimal digits point last_digits power_of optional_of) = absurd (sharp_digit (has_first bytes at (codes "#-Infinity") here (omega arith)) digits)
      longest k (infinity h optional_of) =
          absurd (omega (arith, has_byte bytes at (codes "#-Infinity") here 1 (omega arith), has_byte bytes at (codes "#Infinity") h 1 (omega arith)))
      longest k (minus_infinity h optional_of) = optional.longest k optional_of
      longest k (not_a_number h optional_of) =
          absurd (omega (arith, has_byte bytes at (codes "#-Infinity") here 1 (omega arith), has_byte bytes at (codes "#NaN") h 1 (omega arith)))

  -- the number is `#NaN`
  pub number_not_a_number : {to : ℕ} → Has bytes at (codes "#NaN") → OptionalEnd is_float bytes (at + 4) to → IsEnd (IsNumber bytes at) at (length bytes) to
  number_not_a_number {to} here optional = record {
    low = omega (arith, (optional_low is_float bytes optional.spelled).0);
    within = optional.within;
    spelled = λ l. not_a_number here optional.spelled;
    longest = longest;
  }
    where
      longest : (k : ℕ) → IsNumber bytes at k → k ≤ to
      longest k (integer digits optional_of) = absurd (sharp_digit (has_first bytes at (codes "#NaN") here (omega arith)) digits)
      longest k (hexadecimal zero x digits optional_of) = absurd (omega (arith, zero, has_first bytes at (codes "#NaN") here (omega arith)))
      longest k (decimal digits point last_digits power_of optional_of) = absurd (sharp_digit (has_first bytes at (codes "#NaN") here (omega arith)) digits)
      longest k (infinity h optional_of) =
          absurd (omega (arith, has_byte bytes at (codes "#NaN") here 1 (omega arith), has_byte bytes at (codes "#Infinity") h 1 (omega arith)))
      longest k (minus_infinity h optional_of) =
          absurd (omega (arith, has_byte bytes at (codes "#NaN") here 1 (omega arith), has_byte bytes at (codes "#-Infinity") h 1 (omega arith)))
      longest k (not_a_number h optional_of) = optional.longest k optional_of

-- what a number begins with
pub number_first : {bytes : List ℕ} {from to : ℕ} → IsNumber bytes from to → (is_digit (get_or bytes from 0) ≡ true) ⊎ (get_or bytes from 0 ≡ 35)
number_first {bytes} {from} (integer digits optional_of) = inl (first_digit digits)
number_first {bytes} {from} (hexadecimal zero x digits optional_of) = inl (ap is_digit zero)
number_first {bytes} {from} (decimal digits point last_digits power_of optional_of) = inl (first_digit digits)
number_first {bytes} {from} (infinity h optional_of) = inr (has_first bytes from (codes "#Infinity") h (omega arith))
number_first {bytes} {from} (minus_infinity h optional_of) = inr (has_first bytes from (codes "#-Infinity") h (omega arith))
number_first {bytes} {from} (not_a_number h optional_of) = inr (has_first bytes from (codes "#NaN") h (omega arith))
