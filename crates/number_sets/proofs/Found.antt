-- The index of a number among ascending ones.
use Rattle.std.proofs.Common.{◌≡◌, ◌<◌, ◌≤◌, ◌⊎◌, inl, inr, ℕ, true, false, cond, ltb, eqb, List, Some, None, Ok, Err, get_or, length, sym, ap, ◌∙◌, arith}
use Rattle.std.specs.List.{position, position_or_len}
use Rattle.std.specs.List.Sorted.{IsBinarySearchResult, IsStrictlyIncreasing}
use Rattle.std.specs.Ordering.{nat_cmp}
use Rattle.std.proofs.lemmas.Bool.Decides.{nat_tests}
use Rattle.std.proofs.lemmas.List.Kept.{AllPairs-from_increasing}
use Rattle.std.proofs.lemmas.List.Sorted.{searched}
use Rattle.std.proofs.lemmas.List.Sums.{position_or_len_is}

module _ (numbers : List ℕ) (ascending : IsStrictlyIncreasing numbers) (number : ℕ) where
  less : (i j : ℕ) → i < j → j < length numbers → get_or numbers i 0 < get_or numbers j 0
  less i j before within = AllPairs-from_increasing numbers ascending i j 0 before within

  rises : (i j : ℕ) → i ≤ j → j < length numbers → get_or numbers i 0 ≤ get_or numbers j 0
  rises i j before within = elim (same_or_less i j before) [ inl e ↦ omega (arith, ap (λ k. get_or numbers k 0) e) | inr h ↦ omega (arith, less i j h within) ]
    where
      same_or_less : (i j : ℕ) → i ≤ j → (i ≡ j) ⊎ (i < j)
      same_or_less i j h = grind arith

  first_at : (i : ℕ) → position_or_len (eqb number) numbers ≡ i → position (eqb number) numbers ≡ cond (ltb i (length numbers)) (Some i) None
  first_at i e = ap (λ (k : ℕ). cond (ltb k (length numbers)) (Some k) None) e

  -- where a search by halves finds it
  pub position_found : (i : ℕ) → IsBinarySearchResult (λ y. nat_cmp y number) numbers (Ok i) → Some i ≡ position (eqb number) numbers
  position_found i found =
      let at = searched numbers number (Ok i) found rises in
      let before : (k : ℕ) → k < i → eqb number (get_or numbers k 0) ≡ false = λ k h. (let l = less k i h at.0 in let e = at.1 in grind (arith, nat_tests)) in
      let here : eqb number (get_or numbers i 0) ≡ true = (let e = at.1 in grind (arith, nat_tests)) in
      let low : ltb i (length numbers) ≡ true = (let h = at.0 in grind (arith, nat_tests)) in
      sym (first_at i (position_or_len_is (eqb number) numbers i 0 (omega (arith, at.0)) before (λ _. here)) ∙ ap (λ b. cond b (Some i) None) low)

  -- and where it doesn't
  pub position_absent : (i : ℕ) → IsBinarySearchResult (λ y. nat_cmp y number) numbers (Err i) → None ≡ position (eqb number) numbers
  position_absent i found =
      let at = searched numbers number (Err i) found rises in
      let other : (k : ℕ) → k < length numbers → eqb number (get_or numbers k 0) ≡ false = λ k h. elim (below_or k i) [
        | inl low ↦ (let l = at.1 k low in grind (arith, nat_tests))
        | inr past ↦ (let l = at.2 k past h in grind (arith, nat_tests))
      ] in
      let none : ltb (length numbers) (length numbers) ≡ false = grind (arith, nat_tests) in
      sym (first_at (length numbers) (position_or_len_is (eqb number) numbers (length numbers) 0 (omega arith) other (λ h. absurd (omega (arith, h)))) ∙ ap (λ b. cond b (Some (length numbers)) None) none)
    where
      below_or : (k n : ℕ) → (k < n) ⊎ (n ≤ k)
      below_or k n = grind arith
