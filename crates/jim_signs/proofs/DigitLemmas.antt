-- The number that a few digits write.
use Rattle.std.proofs.Common.{◌≡◌, ℕ, zero, suc, ◌+◌, ◌-◌, ◌*◌, ◌^◌, ◌<◌, ◌≤◌, true, List, [], ◌∷◌, length, get_or, take, drop, slice_range, nat_eq, codes, sym, ap, ◌∙◌, arith, true≢false}
use Rattle.std.specs.List.{starts_with}
use Rattle.std.proofs.lemmas.List.{get_or-take, get_or-drop, length-take, length-drop}
use Rattle.std.specs.Char.{digit_value}
use Rattle.std.specs.Str.Parse.{AllDigits, digits_value}
use Rattle.std.proofs.lemmas.Bool.Decides.{nat_tests}
use Rattle.std.proofs.lemmas.Int.Digits.{digits_value-lt, digits_value_more}
use Rattle.std.proofs.lemmas.Str.Parse.{digits_value-take-le}
use Rattle.jim_text.specs.Spelling.{Digits, IsAt, is_digit}
use Rattle.jim_text.specs.Spelling.IsAt.{this, caught, parameter}

abbrev pub AreDigits : List ℕ → Type 0
AreDigits ds = (k : ℕ) → k < length ds → is_digit (get_or ds k 0) ≡ true

value_is : (b : ℕ) → is_digit b ≡ true → digit_value b ≡ b - 48
value_is b h = grind (arith, nat_tests)

value_low : (b : ℕ) → is_digit b ≡ true → digit_value b < 10
value_low b h = grind (arith, nat_tests)

all_digits : (ds : List ℕ) → AreDigits ds → AllDigits 10 ds
all_digits [] each = tt
all_digits (d ∷ ds) each = (value_low d (each 0 (omega arith)), all_digits ds (λ k less. each (suc k) (omega arith)))

power_low : (n : ℕ) → n ≤ 5 → 10 ^ n ≤ 100000
power_low zero h = omega arith
power_low (suc zero) h = omega arith
power_low (suc (suc zero)) h = omega arith
power_low (suc (suc (suc zero))) h = omega arith
power_low (suc (suc (suc (suc zero)))) h = omega arith
power_low (suc (suc (suc (suc (suc zero))))) h = omega arith
power_low (suc (suc (suc (suc (suc (suc n)))))) h = absurd (omega arith)

pub few_digits : (ds : List ℕ) → AreDigits ds → length ds ≤ 5 → digits_value 10 ds < 100000
few_digits ds each few = omega (arith, digits_value-lt 10 ds (all_digits ds each), power_low (length ds) few)

-- the number with one more digit
pub next_number : (ds : List ℕ) (i : ℕ) → AreDigits ds → i < length ds → digits_value 10 (take (i + 1) ds) ≡ digits_value 10 (take i ds) * 10 + (get_or ds i 0 - 48)
next_number ds i each within = digits_value_more 10 ds i within ∙ ap (λ d. digits_value 10 (take i ds) * 10 + d) (value_is (get_or ds i 0) (each i within))

pub next_low : (ds : List ℕ) (i : ℕ) → AreDigits ds → length ds ≤ 5 → i < length ds → digits_value 10 (take i ds) * 10 + (get_or ds i 0 - 48) < 100000
next_low ds i each few within = omega (arith, next_number ds i each within, digits_value-take-le 10 ds (i + 1) (omega arith), few_digits ds each few)

-- the bytes of a part are those of the whole
get_or-part : (bytes : List ℕ) (from to k : ℕ) → k < to - from → get_or (slice_range bytes from to) k 0 ≡ get_or bytes (from + k) 0
get_or-part bytes from to k within = get_or-take (to - from) (drop from bytes) k 0 within ∙ get_or-drop from bytes k 0

pub length-part : (bytes : List ℕ) (from to : ℕ) → from ≤ to → to ≤ length bytes → length (slice_range bytes from to) ≡ to - from
length-part bytes from to low high = omega (arith, length-take (to - from) (drop from bytes), length-drop from bytes)

-- the rest of a text of which all bytes from a place on are digits
pub digits_behind : (text : List ℕ) (n : ℕ) → Digits is_digit 5 text n (length text) → AreDigits (slice_range text n (length text))
digits_behind text n digits k within =
    let long : length (slice_range text n (length text)) ≡ length text - n = length-part text n (length text) (omega (arith, digits.some)) (omega arith) in
    ap is_digit (get_or-part text n (length text) k (omega arith)) ∙ digits.each (n + k) (omega arith) (omega arith)

-- a word with an at sign that begins as a parameter is one
pub at_digits : (bytes : List ℕ) (from to : ℕ) → IsAt bytes from to → to ≤ length bytes → starts_with nat_eq (slice_range bytes from to) (codes "@parameter") ≡ true
    → Digits is_digit 5 (slice_range bytes from to) 10 (length (slice_range bytes from to))
at_digits bytes from to (this has e) within starts = absurd (true≢false (sym starts ∙ ap (λ s. starts_with nat_eq s (codes "@parameter")) (ap (slice_range bytes from) e ∙ has)))
at_digits bytes from to (caught has e) within starts = absurd (true≢false (sym starts ∙ ap (λ s. starts_with nat_eq s (codes "@parameter")) (ap (slice_range bytes from) e ∙ has)))
at_digits bytes from to (parameter has digits) within starts =
    let long : length (slice_range bytes from to) ≡ to - from = length-part bytes from to (omega (arith, digits.some)) within in
    record {
      some = omega (arith, digits.some);
      few = omega (arith, digits.few);
      each = λ k low high. ap is_digit (get_or-part bytes from to k (omega arith)) ∙ digits.each (from + k) (omega arith) (omega arith);
    }
