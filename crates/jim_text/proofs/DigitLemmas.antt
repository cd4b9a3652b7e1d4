-- Tests of bytes and of words, digits, and bytes that may stand at a place.
use Rattle.std.proofs.Common.{◌≡◌, ℕ, zero, suc, ◌+◌, ◌-◌, ◌<◌, ◌≤◌, ◌⊎◌, Bool, true, false, ◌==◌, ◌&&◌, ◌||◌, List, [], ◌∷◌, length, drop, get_or, refl, sym, ap, ◌∙◌, inl, inr, arith, true≢false}
use Rattle.std.specs.Str.{bytes_eq}
use Rattle.std.proofs.lemmas.List.{get_or-take, get_or-drop, length-take, length-drop}
use Rattle.jim_text.specs.Chars.{Has}
use Rattle.jim_text.specs.Spelling.{Digits, Optional}
use Rattle.jim_text.specs.Ends.{DigitsEnd}
use Rattle.jim_text.proofs.CharLemmas.{byte_before}

-- of two numbers the first is less, or not
pub order : (a b : ℕ) → (a < b) ⊎ (b ≤ a)
order a b = grind arith

-- both parts of a test that holds
pub both : (a b : Bool) → a && b ≡ true → (a ≡ true) × (b ≡ true)
both true b h = (refl, h)
both false b h = absurd (true≢false (sym h))

-- one part of a test that holds
pub either : (a b : Bool) → a || b ≡ true → (a ≡ true) ⊎ (b ≡ true)
either true b h = inl refl
either false b h = inr h

-- the test on bytes says that they are equal
pub bytes_equal : (a b : List ℕ) → bytes_eq a b ≡ true → a ≡ b
bytes_equal [] [] h = refl
bytes_equal [] (y ∷ ys) h = absurd (true≢false (sym h))
bytes_equal (x ∷ xs) [] h = absurd (true≢false (sym h))
bytes_equal (x ∷ xs) (y ∷ ys) h = let p = both (x == y) (bytes_eq xs ys) h in let e : x ≡ y = grind (arith, p.0) in let r = bytes_equal xs ys p.1 in cc

-- a byte that passes a test that 0 fails stands before the end
pub test_before : (is : ℕ → Bool) (bytes : List ℕ) (at : ℕ) → is 0 ≡ false → is (get_or bytes at 0) ≡ true → at < length bytes
test_before is bytes at zero_fails passes = by (get_or bytes at 0) refl
  where
    by : (b : ℕ) → get_or bytes at 0 ≡ b → at < length bytes
    by zero e = absurd (true≢false (sym passes ∙ ap is e ∙ zero_fails))
    by (suc b) e = byte_before bytes at (suc b) e (omega arith)

-- a byte of bytes that stand at a place
pub has_byte : (bytes : List ℕ) (at : ℕ) (text : List ℕ) → Has bytes at text → (k : ℕ) → k < length text → get_or bytes (at + k) 0 ≡ get_or text k 0
has_byte bytes at text h k small =
    let n : (at + length text) - at ≡ length text = omega arith in
    let less : k < (at + length text) - at = omega arith in
    sym (get_or-drop at bytes k 0) ∙ sym (get_or-take ((at + length text) - at) (drop at bytes) k 0 less) ∙ ap (λ s. get_or s k 0) h

-- bytes that stand at a place begin there
pub has_first : (bytes : List ℕ) (at : ℕ) (text : List ℕ) → Has bytes at text → 0 < length text → get_or bytes at 0 ≡ get_or text 0 0
has_first bytes at text h some = ap (λ k. get_or bytes k 0) (omega arith) ∙ has_byte bytes at text h 0 some

-- bytes that stand at a place end in the bytes
pub has_within : (bytes : List ℕ) (at : ℕ) (text : List ℕ) → at ≤ length bytes → Has bytes at text → at + length text ≤ length bytes
has_within bytes at text within h =
    omega (arith, ap length h, length-take ((at + length text) - at) (drop at bytes), length-drop at bytes)

module _ {is : ℕ → Bool} {most : ℕ} {bytes : List ℕ} {from end : ℕ} (found : DigitsEnd is most bytes from end) where
  -- the digits found are digits, where there are any
  pub found_digits : from < end → Digits is most bytes from end
  found_digits some = record { some = some; few = found.few; each = found.each }

  -- no digits are longer than those found
  pub digits_le : {to : ℕ} → Digits is most bytes from to → to ≤ end
  digits_le {to} digits = by (order end to)
    where
      by : (end < to) ⊎ (to ≤ end) → to ≤ end
      by (inl less) = absurd (true≢false (sym (digits.each end found.low less) ∙ found.stop (omega (arith, less, digits.few))))
      by (inr fine) = fine

  -- where digits could go on, a digit stands
  pub digits_shorter : {to : ℕ} → Digits is most bytes from to → to < end → is (get_or bytes to 0) ≡ true
  digits_shorter {to} digits less = found.each to (omega (arith, digits.some)) less

  -- digits before another byte are all that stand there
  pub digits_same : {to : ℕ} → Digits is most bytes from to → is (get_or bytes to 0) ≡ false → to ≡ end
  digits_same {to} digits fails = by (order to end)
    where
      by : (to < end) ⊎ (end ≤ to) → to ≡ end
      by (inl less) = absurd (true≢false (sym (digits_shorter digits less) ∙ fails))
      by (inr fine) = omega (arith, fine, digits_le digits)

  -- where none are found there are none
  pub no_digits : end ≡ from → {to : ℕ} → ¬ (Digits is most bytes from to)
  no_digits e digits = omega (arith, e, digits_le digits, digits.some)

-- a byte that may be missing takes one place at most
pub optional_low : (is : ℕ → Bool) (bytes : List ℕ) {from to : ℕ} → Optional is bytes from to → (from ≤ to) × (to ≤ from + 1)
optional_low is bytes (inl e) = (omega (arith, e), omega (arith, e))
optional_low is bytes (inr p) = (omega (arith, p.0), omega (arith, p.0))
