-- Ascending numbers, and how many of them are at most one.
use Rattle.std.proofs.Common.{◌≡◌, ◌≢◌, ◌↔◌, ℕ, zero, suc, ◌+◌, ◌<◌, ◌≤◌, ◌^◌, Bool, true, false, cond, AllPairs, List, [], ◌∷◌, Some, Result, Ok, Err, MatchResult, get_or, length, slice_get, refl, sym, ap, ◌∙◌, subst, inl, inr, arith}
use Rattle.std.specs.Prelude.{leb, eqb}
use Rattle.std.specs.Cmp.{unsigned_Decides}
use Rattle.std.specs.Ordering.{nat_cmp}
use Rattle.std.specs.List.Sorted.{IsBinarySearchResult, IsPermutation, IsSorted}
use Rattle.std.proofs.lemmas.Bool.{cases_order, le-leb, lt-leb}
use Rattle.std.proofs.lemmas.Bool.Decides.{nat_tests}
use Rattle.std.proofs.lemmas.List.Kept.{AllPairs-from_increasing}
use Rattle.std.proofs.lemmas.List.Sorted.{Contains-permutation, IsNonDecreasingBy-from_sort, IsPermutation-sym, length_permutation, searched}
use Rattle.std.proofs.lemmas.Map.Keys.{IsDistinct-IsPermutation, IsStrictlyIncreasing-from_distinct}
use Rattle.std.proofs.lemmas.Map.Made.{IsDistinct-from_AllPairs}
use Rattle.std.proofs.lemmas.Option.{get_or_from_slice_get, slice_get-get_or}
use Rattle.std.specs.List.{Contains, IsDistinct}
use Rattle.lists.specs.Lists.{Has, IsApart}
use Rattle.lists.proofs.Places.{slice_get-below, slice_get-read}
use Rattle.cert_make.specs.Numbers.{AreNumbers, up_to}

-- an element, by indexing with a default
pub contained : (xs : List ℕ) (n : ℕ) → Has xs n → Contains xs n
contained xs n has = (has.0, slice_get-below xs has.0 n has.1, get_or_from_slice_get xs has.0 n n has.1)

pub there_from : (xs : List ℕ) (n : ℕ) → Contains xs n → Has xs n
there_from xs n has = (has.0, slice_get-read xs has.0 n has.1 (sym has.2))

-- what stands in a list stands in one with the same elements
pub has_moved : (xs ys : List ℕ) (n : ℕ) → IsPermutation xs ys → Has xs n → Has ys n
has_moved xs ys n moved has = there_from ys n (Contains-permutation xs ys n moved (contained xs n has))

-- different numbers ascend when they are sorted
pub sorted_numbers : (xs ys : List ℕ) → IsApart xs → length xs < 2 ^ 32 → IsPermutation xs ys → IsSorted nat_cmp ys → AreNumbers ys
sorted_numbers xs ys apart few moved sorted = record {
  ascending = AllPairs-from_increasing ys (IsStrictlyIncreasing-from_distinct ys (IsNonDecreasingBy-from_sort (λ (x : ℕ). x) ys sorted) distinct);
  few = omega (arith, length_permutation xs ys moved, few);
}
  where
    differ : AllPairs (λ x y. x ≢ y) xs
    differ i j d less within same =
        absurd (omega (arith, less, apart i j (get_or xs j d) (slice_get-get_or xs i d (omega (arith, less, within)) ∙ ap Some same) (slice_get-get_or xs j d within)))

    distinct : IsDistinct eqb ys
    distinct = IsDistinct-IsPermutation eqb (λ x y. grind (arith, nat_tests)) xs ys moved (IsDistinct-from_AllPairs unsigned_Decides xs differ)

-- and a sorted copy has what the list had
module _ (keys read copy ys : List ℕ) (as_read : read ≡ keys) (as_copy : copy ≡ read) (moved : IsPermutation copy ys) where
  pub sorted_copy : IsApart keys → length keys < 2 ^ 32 → IsSorted nat_cmp ys → AreNumbers ys
  sorted_copy apart few sorted =
      let same : keys ≡ copy = sym as_read ∙ sym as_copy in
      sorted_numbers copy ys (subst IsApart same apart) (omega (arith, ap length same, few)) moved sorted

  pub sorted_has : (n : ℕ) → Has ys n ↔ Has keys n
  sorted_has n =
      let same : copy ≡ keys = as_copy ∙ as_read in (
        λ has. subst (λ (xs : List ℕ). Has xs n) same (has_moved ys copy n (IsPermutation-sym copy ys moved) has),
        λ has. has_moved copy ys n moved (subst (λ (xs : List ℕ). Has xs n) (sym same) has),
      )

-- so many of the numbers are at most one, and the others are not
pub parted : (xs : List ℕ) (n m : ℕ) → m ≤ length xs → ((k : ℕ) → k < m → get_or xs k 0 ≤ n) → ((k : ℕ) → m ≤ k → k < length xs → n < get_or xs k 0) → up_to xs n ≡ m
parted [] n m within low high = omega (arith, within)
parted (x ∷ xs) n zero within low high =
    let rest = parted xs n zero (omega arith) (λ k less. absurd (omega (arith, less))) (λ k from less. high (suc k) (omega arith) (omega (arith, less))) in
    ap (λ (b : Bool). cond b 1 0 + up_to xs n) (lt-leb x n (high 0 (omega arith) (omega arith))) ∙ omega (arith, rest)
parted (x ∷ xs) n (suc m) within low high =
    let rest = parted xs n m (omega (arith, within)) (λ k less. low (suc k) (omega (arith, less))) (λ k from less. high (suc k) (omega (arith, from)) (omega (arith, less))) in
    ap (λ (b : Bool). cond b 1 0 + up_to xs n) (le-leb x n (low 0 (omega arith))) ∙ omega (arith, rest)

-- no more than all
up_to_step : (b : Bool) (n m : ℕ) → n ≤ m → cond b 1 0 + n ≤ suc m
up_to_step true n m less = omega (arith, less)
up_to_step false n m less = omega (arith, less)

pub up_to_within : (xs : List ℕ) (n : ℕ) → up_to xs n ≤ length xs
up_to_within [] n = omega arith
up_to_within (x ∷ xs) n = up_to_step (leb x n) (up_to xs n) (length xs) (up_to_within xs n)

-- where the next number isn't there, no more are at most it
next_other : (x i : ℕ) → (x ≡ suc i → ⊥) → leb x (suc i) ≡ leb x i
next_other x i not = elim (cases_order x (suc i)) [
  | inl same ↦ absurd (not same)
  | inr apart ↦ elim apart [
    | inl below ↦ le-leb x (suc i) (omega (arith, below)) ∙ sym (le-leb x i (omega (arith, below)))
    | inr above ↦ lt-leb x (suc i) above ∙ sym (lt-leb x i (omega (arith, above)))
  ]
]

pub up_to_other : (xs : List ℕ) (i : ℕ) → (Has xs (suc i) → ⊥) → up_to xs (suc i) ≡ up_to xs i
up_to_other [] i not = refl
up_to_other (x ∷ xs) i not =
    ap (λ (b : Bool). cond b 1 0 + up_to xs (suc i)) (next_other x i (λ same. not (zero, ap Some same)))
    ∙ ap (λ (k : ℕ). cond (leb x i) 1 0 + k) (up_to_other xs i (λ has. not (suc has.0, has.1)))

module _ (xs : List ℕ) (up : AllPairs (λ a b. a < b) xs) where
  never_falls : (i j : ℕ) → i ≤ j → j < length xs → get_or xs i 0 ≤ get_or xs j 0
  never_falls i j from within = elim (cases_order i j) [
    | inl same ↦ omega (arith, ap (λ (k : ℕ). get_or xs k 0) same)
    | inr apart ↦ elim apart [ inl below ↦ omega (arith, up i j 0 below within) | inr above ↦ absurd (omega (arith, from, above)) ]
  ]

  -- up to one that is there are those before it, and itself
  pub up_to_there : (j n : ℕ) → j < length xs → get_or xs j 0 ≡ n → up_to xs n ≡ j + 1
  up_to_there j n within read =
      parted xs n (j + 1) (omega (arith, within)) (λ k less. omega (arith, read, never_falls k j (omega (arith, less)) within)) (λ k from less. omega (arith, read, up j k 0 (omega (arith, from)) less))

  pub up_to_at : (j n : ℕ) → slice_get xs j ≡ Some n → up_to xs n ≡ suc j
  up_to_at j n there = up_to_there j n (slice_get-below xs j n there) (get_or_from_slice_get xs j n 0 there) ∙ omega arith

  up_to_before : (j i : ℕ) → slice_get xs j ≡ Some (suc i) → up_to xs i ≡ j
  up_to_before j i there =
      let within = slice_get-below xs j (suc i) there in
      let read = get_or_from_slice_get xs j (suc i) 0 there in
      parted xs i j (omega (arith, within)) (λ k less. omega (arith, read, up k j 0 less within)) (λ k from less. omega (arith, read, never_falls j k from less))

  pub up_to_next : (i : ℕ) → Has xs (suc i) → up_to xs (suc i) ≡ suc (up_to xs i)
  up_to_next i has = up_to_at has.0 (suc i) has.1 ∙ ap suc (sym (up_to_before has.0 i has.1))

  -- what a search tells
  pub up_to_searched : (n : ℕ) (r : Result ℕ ℕ) → IsBinarySearchResult (λ y. nat_cmp y n) xs r → MatchResult r (λ at. (at < length xs) × (up_to xs n ≡ at + 1)) (λ at. (at ≤ length xs) × (up_to xs n ≡ at))
  up_to_searched n (Ok at) is = let s = searched xs n (Ok at) is never_falls in (s.0, up_to_there at n s.0 s.1)
  up_to_searched n (Err at) is =
      let s = searched xs n (Err at) is never_falls in
      (s.0, parted xs n at s.0 (λ k less. omega (arith, s.1 k less)) (λ k from less. s.2 k from less))
