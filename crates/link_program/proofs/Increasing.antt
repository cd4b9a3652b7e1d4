-- Rows that increase, and their places.
use Rattle.std.proofs.Common.{◌≡◌, ◌≢◌, ℕ, zero, suc, ◌+◌, ◌<◌, ◌≤◌, Option, Some, None, List, length, replicate, slice_get, refl, sym, ap, subst, ◌∙◌, inl, inr, arith}
use Rattle.std.specs.Prelude.{◌↔◌}
use Rattle.std.specs.List.{slice_set}
use Rattle.std.proofs.lemmas.Bool.{cases_eq, cases_lt, cases_order}
use Rattle.std.proofs.lemmas.Option.{get_or_from_slice_get}
use Rattle.lists.proofs.Places.{slice_get-below, slice_get-set_other, slice_get-set_same, slice_get-there}
use Rattle.lists.specs.Lists.{AreIncreasing}
use Rattle.link_program.specs.Numbers.{IsNumbering}

-- an earlier row is smaller
pub smaller : (rows : List ℕ) (i j a b : ℕ) → AreIncreasing rows → i < j → slice_get rows i ≡ Some a → slice_get rows j ≡ Some b → a < b
smaller rows i j a b increasing before at_i at_j =
    let pair = increasing i j b before (slice_get-below rows j b at_j) in
    omega (arith, pair, get_or_from_slice_get rows i a b at_i, get_or_from_slice_get rows j b b at_j)

-- a place is no greater than its row
pub place_le : (rows : List ℕ) (i row : ℕ) → AreIncreasing rows → slice_get rows i ≡ Some row → i ≤ row
place_le rows zero row increasing at = omega arith
place_le rows (suc i) row increasing at =
    let before = slice_get-there rows i (omega (arith, slice_get-below rows (suc i) row at)) in
    omega (arith, place_le rows i before.0 increasing before.1, smaller rows i (suc i) before.0 row increasing (omega arith) before.1 at)

-- the table has the places before an end
pub record HasPlaces (rows : List ℕ) (end : ℕ) (numbers : List (Option ℕ)) : Type 0 where
  pub each : (row n : ℕ) → (slice_get numbers row ≡ Some (Some n)) ↔ ((n < end) × (slice_get rows n ≡ Some row))

-- an empty table has no number
no_number : (empty : Option ℕ) (count row n : ℕ) → empty ≡ None → slice_get (replicate count empty) row ≡ Some (Some n) → ⊥
no_number empty zero row n is e = cc
no_number empty (suc count) zero n is e = cc
no_number empty (suc count) (suc row) n is e = no_number empty count row n is e

-- an empty table has the places before the first
pub no_places : (rows : List ℕ) (count : ℕ) → HasPlaces rows 0 (replicate count None)
no_places rows count = record { each = λ row n. ((λ e. absurd (no_number None count row n refl e)), λ h. absurd (omega (arith, h.0))) }

-- one place more
pub places_more : (rows : List ℕ) (end row : ℕ) (numbers : List (Option ℕ)) → AreIncreasing rows → slice_get rows end ≡ Some row → row < length numbers → HasPlaces rows end numbers
    → HasPlaces rows (end + 1) (slice_set numbers row (Some end))
places_more rows end row numbers increasing there below has = record { each = λ r n. (to r n, from r n) }
  where
    to : (r n : ℕ) → slice_get (slice_set numbers row (Some end)) r ≡ Some (Some n) → (n < end + 1) × (slice_get rows n ≡ Some r)
    to r n e = elim (cases_eq r row) [
      | inl same ↦ (let set = slice_get-set_same numbers row (Some end) below in
          let here : slice_get (slice_set numbers row (Some end)) row ≡ Some (Some n) = subst (λ k. slice_get (slice_set numbers row (Some end)) k ≡ Some (Some n)) same e in
          let last : end ≡ n = cc (set, here) in
          (omega (arith, last), subst (λ k. slice_get rows k ≡ Some r) last (there ∙ ap Some (sym same))))
      | inr other ↦ (let old = (has.each r n).0 (sym (slice_get-set_other numbers row r (Some end) other) ∙ e) in (omega (arith, old.0), old.1))
    ]

    from : (r n : ℕ) → (n < end + 1) × (slice_get rows n ≡ Some r) → slice_get (slice_set numbers row (Some end)) r ≡ Some (Some n)
    from r n h = elim (cases_lt n end) [
      | inl before ↦ (let differs : r ≢ row = (λ e. omega (arith, e, smaller rows n end r row increasing before h.1 there)) in
          slice_get-set_other numbers row r (Some end) differs ∙ (has.each r n).1 (before, h.1))
      | inr last ↦ (let same : n ≡ end = omega (arith, last, h.0) in
          let rows_same : row ≡ r = (let a = subst (λ k. slice_get rows k ≡ Some r) same h.1 in cc (a, there)) in
          subst (λ k. slice_get (slice_set numbers row (Some end)) k ≡ Some (Some n)) rows_same
          (slice_get-set_same numbers row (Some end) below ∙ ap (λ (k : ℕ). Some (Some k)) (sym same)))
    ]

-- all places
pub all_places : (rows : List ℕ) (end : ℕ) (numbers : List (Option ℕ)) → AreIncreasing rows → length rows ≤ end → HasPlaces rows end numbers → IsNumbering rows numbers
all_places rows end numbers increasing enough has = record {
  increasing = increasing;
  each = λ row n. ((λ e. ((has.each row n).0 e).1), λ h. (has.each row n).1 (omega (arith, enough, slice_get-below rows n row h), h));
}

-- a row that the table hasn't is none of the rows
pub no_row : (rows : List ℕ) (numbers : List (Option ℕ)) (row n : ℕ) → IsNumbering rows numbers → length numbers ≤ row → slice_get rows n ≡ Some row → ⊥
no_row rows numbers row n numbering past there = let has = (numbering.each row n).1 there in omega (arith, past, slice_get-below numbers row (Some n) has)

-- a row's number
pub row_number : (rows : List ℕ) (numbers : List (Option ℕ)) (row : ℕ) (found : Option ℕ) → IsNumbering rows numbers → slice_get numbers row ≡ Some found
    → (n : ℕ) → (found ≡ Some n) ↔ (slice_get rows n ≡ Some row)
row_number rows numbers row found numbering at n =
    ((λ e. (numbering.each row n).0 (at ∙ ap Some e)), λ h. (let has = (numbering.each row n).1 h in cc (at, has)))
