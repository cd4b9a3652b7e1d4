-- What the last of some turns at a place or before it tells.
use Rattle.std.proofs.Common.{◌≡◌, ℕ, zero, suc, ◌-◌, ◌<◌, ◌≤◌, ◌⊎◌, Bool, true, false, cond, leb, leb-true, List, [], ◌∷◌, length, get_or, refl, sym, ap, ◌∙◌, inl, inr, arith}
use Rattle.std.specs.List.Sorted.{IsPartitionPoint}
use Rattle.std.proofs.lemmas.Bool.{le-leb, leb-false}

module _ (T : Type 0) (A : Type 0) (at : T → ℕ) (value : T → A) (told : A → List T → ℕ → A) (none : (a : A) (n : ℕ) → told a [] n ≡ a)
    (more : (a : A) (t : T) (ts : List T) (n : ℕ) → told a (t ∷ ts) n ≡ cond (leb (at t) n) (told (value t) ts n) a) where
  -- by the first turn
  passed : (a : A) (t : T) (ts : List T) (n : ℕ) → at t ≤ n → told a (t ∷ ts) n ≡ told (value t) ts n
  passed a t ts n h = more a t ts n ∙ ap (λ b. cond b (told (value t) ts n) a) (le-leb (at t) n h)

  coming : (a : A) (t : T) (ts : List T) (n : ℕ) → n < at t → told a (t ∷ ts) n ≡ a
  coming a t ts n h = by (leb (at t) n) refl
    where
      by : (b : Bool) → leb (at t) n ≡ b → told a (t ∷ ts) n ≡ a
      by true e = absurd (omega (arith, leb-true (at t) n e, h))
      by false e = more a t ts n ∙ ap (λ b. cond b (told (value t) ts n) a) e

  -- where no turn comes between two places, the same is told at both
  pub told_alike : (a : A) (ts : List T) (p q : ℕ) → p ≤ q → ((k : ℕ) (d : T) → k < length ts → (at (get_or ts k d) ≤ p) ⊎ (q < at (get_or ts k d))) → told a ts q ≡ told a ts p
  told_alike a [] p q le each = none a q ∙ sym (none a p)
  told_alike a (t ∷ ts) p q le each = elim (each 0 t (omega arith)) [
    | inl before ↦ passed a t ts q (omega arith) ∙ told_alike (value t) ts p q le (λ k d h. each (suc k) d (omega (arith, h))) ∙ sym (passed a t ts p before)
    | inr after ↦ coming a t ts q after ∙ sym (coming a t ts p (omega arith))
  ]

  -- no turn has come
  told_first : (a : A) (ts : List T) (n : ℕ) → ((k : ℕ) (d : T) → k < length ts → n < at (get_or ts k d)) → told a ts n ≡ a
  told_first a [] n later = none a n
  told_first a (t ∷ ts) n later = coming a t ts n (later 0 t (omega arith))

  -- the last that has come
  told_last : (a : A) (ts : List T) (n i : ℕ) (d : T) → i < length ts → ((k : ℕ) (e : T) → k ≤ i → at (get_or ts k e) ≤ n)
      → ((k : ℕ) (e : T) → i < k → k < length ts → n < at (get_or ts k e)) → told a ts n ≡ value (get_or ts i d)
  told_last a [] n i d h low high = absurd (omega arith)
  told_last a (t ∷ ts) n zero d h low high = passed a t ts n (low 0 t (omega arith)) ∙ told_first (value t) ts n (λ k e lt. high (suc k) e (omega arith) (omega (arith, lt)))
  told_last a (t ∷ ts) n (suc i) d h low high = passed a t ts n (low 0 t (omega arith))
      ∙ told_last (value t) ts n i d (omega arith) (λ k e le. low (suc k) e (omega (arith, le))) (λ k e lt within. high (suc k) e (omega (arith, lt)) (omega (arith, within)))

  -- the turns before an index have come, and the others not yet
  module _ (a : A) (ts : List T) (place after : ℕ) (bound : after ≤ length ts) (point : IsPartitionPoint (λ t. leb (at t) place ≡ true) (λ t. leb (at t) place ≡ false) ts after) where
    pub has_come : (k : ℕ) (d : T) → k < after → at (get_or ts k d) ≤ place
    has_come k d h = leb-true _ _ (point.0 k d (omega arith) h)

    pub is_to_come : (k : ℕ) (d : T) → after ≤ k → k < length ts → place < at (get_or ts k d)
    is_to_come k d le h = leb-false _ _ (point.1 k d le h)

    pub told_none : after ≤ 0 → told a ts place ≡ a
    told_none e = told_first a ts place (λ k d h. is_to_come k d (omega (arith, e)) h)

    pub told_by : (d : T) → 0 < after → told a ts place ≡ value (get_or ts (after - 1) d)
    told_by d some = told_last a ts place (after - 1) d (omega (arith, some, bound)) (λ k e le. has_come k e (omega (arith, le, some))) (λ k e lt h. is_to_come k e (omega (arith, lt)) h)
