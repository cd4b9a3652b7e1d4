-- The longest mark at a place.
use Rattle.std.proofs.Common.{◌≡◌, ℕ, Bool, zero, suc, ◌+◌, ◌-◌, ◌<◌, ◌≤◌, true, false, nat_le, ◌&&◌, ◌||◌, ◌==◌, not, List, [], ◌∷◌, length, take, drop, get_or, slice_range, refl, sym, ap, ◌∙◌, arith, true≢false, codes}
use Rattle.std.proofs.Math.Seq.{drop-cons}
use Rattle.std.specs.Str.{bytes_eq}
use Rattle.jim_text.specs.Words.{marks, look_up, single_marks, double_marks, triple_marks}
use Rattle.jim_text.specs.declared.lead.Lead.{Lead}
use Rattle.jim_text.specs.Spelling.{is_single, is_double, is_triple, is_bare, IsMark}
use Rattle.jim_text.specs.Spelling.IsMark.{single, double, triple}
use Rattle.jim_text.specs.Ends.{IsEnd}
use Rattle.jim_text.proofs.CharLemmas.{byte_before}
use Rattle.jim_text.proofs.DigitLemmas.{both, bytes_equal}
use Rattle.jim_text.proofs.TableLemmas.{any_entry, look_up-filter}

-- a byte that isn't 0
some_byte : (c : ℕ) → nat_le 1 c ≡ true → 0 < c
some_byte c h = grind arith

-- the second byte of a mark of two is not 0, which stands for none
second_some : (b c : ℕ) → is_double b c ≡ true → 0 < c
unfolding marks
second_some b c h = some_byte c (any_entry (λ t. not (length t == 2) || nat_le 1 (get_or t 1 0)) (b ∷ c ∷ []) marks refl h)

-- the bytes of the mark of three
pub triple_bytes : (b c d : ℕ) → is_triple b c d ≡ true → (b ≡ 62) × (c ≡ 62) × (d ≡ 62)
unfolding marks
triple_bytes b c d h =
    let same : bytes_eq (b ∷ c ∷ d ∷ []) (codes ">>>") ≡ true = any_entry (λ t. not (length t == 3) || bytes_eq t (codes ">>>")) (b ∷ c ∷ d ∷ []) marks refl h in
    let e = bytes_equal (b ∷ c ∷ d ∷ []) (62 ∷ 62 ∷ 62 ∷ []) same in
    (ap (λ s. get_or s 0 0) e, ap (λ s. get_or s 1 0) e, ap (λ s. get_or s 2 0) e)

-- it begins with a mark of two
triple_double : (b c d : ℕ) → is_triple b c d ≡ true → is_double b c ≡ true
unfolding marks
triple_double b c d h = let e = triple_bytes b c d h in rw (e.0, e.1) refl

module _ (bytes : List ℕ) (at : ℕ) (within : at < length bytes) where
  -- the longest mark has three bytes
  pub mark_three : is_triple (get_or bytes at 0) (get_or bytes (at + 1) 0) (get_or bytes (at + 2) 0) ≡ true → IsEnd (IsMark bytes at) at (length bytes) (at + 3)
  mark_three h = record {
    low = omega arith;
    within = omega (arith, byte_before bytes (at + 2) 62 (triple_bytes (get_or bytes at 0) (get_or bytes (at + 1) 0) (get_or bytes (at + 2) 0) h).2 (omega arith));
    spelled = λ _. triple refl h;
    longest = longest;
  }
    where
      longest : (k : ℕ) → IsMark bytes at k → k ≤ at + 3
      longest k (single e s b) = omega (arith, e)
      longest k (double e d) = omega (arith, e)
      longest k (triple e t) = omega (arith, e)

  -- it has two
  pub mark_two : is_double (get_or bytes at 0) (get_or bytes (at + 1) 0) ≡ true
      → is_triple (get_or bytes at 0) (get_or bytes (at + 1) 0) (get_or bytes (at + 2) 0) ≡ false → IsEnd (IsMark bytes at) at (length bytes) (at + 2)
  mark_two h fails = record {
    low = omega arith;
    within = omega (arith, byte_before bytes (at + 1) (get_or bytes (at + 1) 0) refl (second_some (get_or bytes at 0) (get_or bytes (at + 1) 0) h));
    spelled = λ _. double refl h;
    longest = longest;
  }
    where
      longest : (k : ℕ) → IsMark bytes at k → k ≤ at + 2
      longest k (single e s b) = omega (arith, e)
      longest k (double e d) = omega (arith, e)
      longest k (triple e t) = absurd (true≢false (sym t ∙ fails))

  -- it has one
  pub mark_one : is_double (get_or bytes at 0) (get_or bytes (at + 1) 0) ≡ false
      → is_single (get_or bytes at 0) && is_bare (get_or bytes at 0) (get_or bytes (at + 1) 0) ≡ true → IsEnd (IsMark bytes at) at (length bytes) (at + 1)
  mark_one fails h = record {
    low = omega arith;
    within = omega arith;
    spelled = λ _. let p = both (is_single (get_or bytes at 0)) (is_bare (get_or bytes at 0) (get_or bytes (at + 1) 0)) h in single refl p.0 p.1;
    longest = longest;
  }
    where
      longest : (k : ℕ) → IsMark bytes at k → k ≤ at + 1
      longest k (single e s b) = omega (arith, e)
      longest k (double e d) = absurd (true≢false (sym d ∙ fails))
      longest k (triple e t) = absurd (true≢false (sym (triple_double (get_or bytes at 0) (get_or bytes (at + 1) 0) (get_or bytes (at + 2) 0) t) ∙ fails))

  -- there is no mark
  pub mark_none : is_double (get_or bytes at 0) (get_or bytes (at + 1) 0) ≡ false
      → is_single (get_or bytes at 0) && is_bare (get_or bytes at 0) (get_or bytes (at + 1) 0) ≡ false → IsEnd (IsMark bytes at) at (length bytes) at
  mark_none fails h = record {
    low = omega arith;
    within = omega arith;
    spelled = λ l. absurd (omega (arith, l));
    longest = longest;
  }
    where
      longest : (k : ℕ) → IsMark bytes at k → k ≤ at
      longest k (single e s b) = absurd (true≢false (sym (λ i. s i && b i) ∙ h))
      longest k (double e d) = absurd (true≢false (sym d ∙ fails))
      longest k (triple e t) = absurd (true≢false (sym (triple_double (get_or bytes at 0) (get_or bytes (at + 1) 0) (get_or bytes (at + 2) 0) t) ∙ fails))

-- a part of the bytes by its first byte
part_cons : (bytes : List ℕ) (from to : ℕ) → from < to → to ≤ length bytes → slice_range bytes from to ≡ get_or bytes from 0 ∷ slice_range bytes (from + 1) to
part_cons bytes from to low high =
    let long : to - from ≡ suc (to - (from + 1)) = omega arith in
    let less : from < length bytes = omega arith in
    let next : suc from ≡ from + 1 = omega arith in
    ap (λ n. take n (drop from bytes)) long ∙ ap (take (suc (to - (from + 1)))) (drop-cons bytes from 0 less)
    ∙ ap (λ n. get_or bytes from 0 ∷ take (to - (from + 1)) (drop n bytes)) next

part_nil : (bytes : List ℕ) (from to : ℕ) → to ≤ from → slice_range bytes from to ≡ []
part_nil bytes from to low = let none : to - from ≡ zero = omega arith in ap (λ n. take n (drop from bytes)) none

-- one byte, two and three from a place on
pub one_part : (bytes : List ℕ) (from to : ℕ) → to ≡ from + 1 → to ≤ length bytes → slice_range bytes from to ≡ get_or bytes from 0 ∷ []
one_part bytes from to e high = part_cons bytes from to (omega (arith, e)) high ∙ ap (λ s. get_or bytes from 0 ∷ s) (part_nil bytes (from + 1) to (omega (arith, e)))

pub two_part : (bytes : List ℕ) (from to : ℕ) → to ≡ from + 2 → to ≤ length bytes → slice_range bytes from to ≡ get_or bytes from 0 ∷ get_or bytes (from + 1) 0 ∷ []
two_part bytes from to e high = part_cons bytes from to (omega (arith, e)) high ∙ ap (λ s. get_or bytes from 0 ∷ s) (one_part bytes (from + 1) to (omega (arith, e)) high)

pub three_part : (bytes : List ℕ) (from to : ℕ) → to ≡ from + 3 → to ≤ length bytes
    → slice_range bytes from to ≡ get_or bytes from 0 ∷ get_or bytes (from + 1) 0 ∷ get_or bytes (from + 2) 0 ∷ []
three_part bytes from to e high =
    let place : from + 1 + 1 ≡ from + 2 = omega arith in
    part_cons bytes from to (omega (arith, e)) high ∙ ap (λ s. get_or bytes from 0 ∷ s) (two_part bytes (from + 1) to (omega (arith, e)) high)
    ∙ ap (λ n. get_or bytes from 0 ∷ get_or bytes (from + 1) 0 ∷ get_or bytes n 0 ∷ []) place

-- the class of a mark by the marks of its length
pub single_class : {b c : ℕ} {l : Lead} → l ≡ look_up single_marks (b ∷ []) → b ≡ c → l ≡ look_up marks (c ∷ [])
unfolding marks
single_class {b} {c} e p = e ∙ ap (λ x. look_up single_marks (x ∷ [])) p ∙ sym (look_up-filter marks (c ∷ []) 1 refl)

pub double_class : {b c b2 c2 : ℕ} {l : Lead} → l ≡ look_up double_marks (b ∷ c ∷ []) → b ≡ b2 → c ≡ c2 → l ≡ look_up marks (b2 ∷ c2 ∷ [])
unfolding marks
double_class {b} {c} {b2} {c2} e p q = e ∙ (λ i. look_up double_marks (p i ∷ q i ∷ [])) ∙ sym (look_up-filter marks (b2 ∷ c2 ∷ []) 2 refl)

pub triple_class : {b c d b2 c2 d2 : ℕ} {l : Lead} → l ≡ look_up triple_marks (b ∷ c ∷ d ∷ []) → b ≡ b2 → c ≡ c2 → d ≡ d2 → l ≡ look_up marks (b2 ∷ c2 ∷ d2 ∷ [])
unfolding marks
triple_class {b} {c} {d} {b2} {c2} {d2} e p q r = e ∙ (λ i. look_up triple_marks (p i ∷ q i ∷ r i ∷ [])) ∙ sym (look_up-filter marks (b2 ∷ c2 ∷ d2 ∷ []) 3 refl)

pub none_of : (x : Bool) → x && false ≡ false
none_of true = refl
none_of false = refl
