-- The weight of a key in a row, and what there is at the number of an entry.
use Rattle.std.proofs.Common.{◌≡◌, ◌≢◌, ◌⊎◌, inl, inr, ℕ, zero, suc, Bool, true, false, cond, List, [], ◌∷◌, ◌++◌, length, slice_get, Some, refl, sym, ap, ◌∙◌, arith}
use Rattle.std.specs.List.{slice_set}
use Rattle.auto_table.specs.declared.entry.Entry.{Entry}
use Rattle.auto_table.specs.contracts.entry.EntryPartialEq.TheImpl as entry
use Rattle.auto_table.specs.Cells.{at_entry, weight_of}
use Rattle.lists.specs.Lists.{Has, IsApart}
use Rattle.auto_table.proofs.Same.{same_entry, self_entry}
use Rattle.lists.proofs.OneKey.{one_key}

-- two numbers are one, or they differ
pub one_or_other : (i j : ℕ) → (i ≡ j) ⊎ (i ≢ j)
one_or_other i j = grind arith

-- ---- in a row
module _ {K X W : Type 0} (eq : K → K → Bool) (same : (x y : K) → eq x y ≡ true → x ≡ y) (self : (x : K) → eq x x ≡ true) (is_of : X → K) (weight : X → W) (none : W) where
  abbrev in_row : K → List X → W
  in_row k xs = weight_of eq is_of weight none k xs

  first : (x : X) (xs : List X) (k : K) → is_of x ≡ k → in_row k (x ∷ xs) ≡ weight x
  first x xs k e = ap (λ (t : Bool). cond t (weight x) (in_row k xs)) (ap (λ (z : K). eq z k) e ∙ self k)

  later : (x : X) (xs : List X) (k : K) → is_of x ≢ k → in_row k (x ∷ xs) ≡ in_row k xs
  later x xs k n = elim (one_key eq self same (is_of x) k) [
    | inl e ↦ absurd (n e.0)
    | inr e ↦ ap (λ (t : Bool). cond t (weight x) (in_row k xs)) e.1
  ]

  -- no cell is of the key
  pub row-none : (xs : List X) (k : K) → ((j : ℕ) (x : X) → slice_get xs j ≡ Some x → is_of x ≢ k) → in_row k xs ≡ none
  row-none [] k miss = refl
  row-none (x ∷ xs) k miss = later x xs k (miss 0 x refl) ∙ row-none xs k (λ j y h. miss (suc j) y h)

  -- the only cell of its key
  pub row-cell : (xs : List X) (j : ℕ) (x : X) → slice_get xs j ≡ Some x → ((i : ℕ) (y : X) → slice_get xs i ≡ Some y → is_of y ≡ is_of x → i ≡ j) → in_row (is_of x) xs ≡ weight x
  row-cell [] j x h only = cc
  row-cell (y ∷ xs) zero x h only = let e : y ≡ x = cc in first y xs (is_of x) (ap is_of e) ∙ ap weight e
  row-cell (y ∷ xs) (suc j) x h only =
      later y xs (is_of x) (λ e. let n : 0 ≡ suc j = only 0 y refl e in absurd (omega (arith, n)))
      ∙ row-cell xs j x h (λ i z g e. let n : suc i ≡ suc j = only (suc i) z g e in omega (arith, n))

  -- a key weighs nothing there, or a cell is of it
  pub row-or : (xs : List X) (k : K) → (in_row k xs ≡ none) ⊎ ((j : ℕ) × (x : X) × (slice_get xs j ≡ Some x) × (is_of x ≡ k))
  row-or [] k = inl refl
  row-or (x ∷ xs) k = elim (one_key eq self same (is_of x) k) [
    | inl e ↦ inr (0, x, refl, e.0)
    | inr e ↦ elim (row-or xs k) [
      | inl n ↦ inl (later x xs k e.0 ∙ n)
      | inr h ↦ inr (suc h.0, h.1, h.2, h.3)
    ]
  ]

  -- a cell in the place of another one leaves the weights of other keys
  pub row-set : (xs : List X) (j : ℕ) (x y : X) (k : K) → slice_get xs j ≡ Some x → is_of y ≡ is_of x → is_of y ≢ k → in_row k (slice_set xs j y) ≡ in_row k xs
  row-set [] j x y k h e n = cc
  row-set (z ∷ xs) zero x y k h e n = let is : z ≡ x = cc in later y xs k n ∙ sym (later z xs k (λ g. n (e ∙ sym (ap is_of is) ∙ g)))
  row-set (z ∷ xs) (suc j) x y k h e n = ap (λ (r : W). cond (eq (is_of z) k) (weight z) r) (row-set xs j x y k h e n)

  -- and one behind the others does
  pub row-push : (xs : List X) (y : X) (k : K) → is_of y ≢ k → in_row k (xs ++ y ∷ []) ≡ in_row k xs
  row-push [] y k n = later y [] k n
  row-push (z ∷ xs) y k n = ap (λ (r : W). cond (eq (is_of z) k) (weight z) r) (row-push xs y k n)

-- two entries are one, or the test tells them apart
pub one_entry : (a b : Entry) → ((a ≡ b) × (entry.eq-value.it a b ≡ true)) ⊎ ((a ≢ b) × (entry.eq-value.it a b ≡ false))
one_entry a b = one_key entry.eq-value.it self_entry same_entry a b

-- ---- at the number of an entry
module _ {X : Type 0} where
  here : (k : Entry) (ks : List Entry) (at : ℕ → X) (none : X) (e : Entry) → k ≡ e → at_entry (k ∷ ks) at none e ≡ at 0
  here k ks at none e h = ap (λ (t : Bool). cond t (at 0) (at_entry ks (λ i. at (suc i)) none e)) (ap (λ (z : Entry). entry.eq-value.it z e) h ∙ self_entry e)

  -- an entry with a number
  pub at_entry-there : (ks : List Entry) (at : ℕ → X) (none : X) (e : Entry) (i : ℕ) → IsApart ks → slice_get ks i ≡ Some e → at_entry ks at none e ≡ at i
  at_entry-there [] at none e i apart h = cc
  at_entry-there (k ∷ ks) at none e zero apart h = here k ks at none e (let x : k ≡ e = cc in x)
  at_entry-there (k ∷ ks) at none e (suc i) apart h = elim (one_entry k e) [
    | inl s ↦ let n : 0 ≡ suc i = apart 0 (suc i) e (ap Some s.0) h in absurd (omega (arith, n))
    | inr s ↦ ap (λ (t : Bool). cond t (at 0) (at_entry ks (λ i. at (suc i)) none e)) s.1
        ∙ at_entry-there ks (λ i. at (suc i)) none e i (λ a b x g f. let n : suc a ≡ suc b = apart (suc a) (suc b) x g f in omega (arith, n)) h
  ]

  -- an entry without one
  pub at_entry-none : (ks : List Entry) (at : ℕ → X) (none : X) (e : Entry) → (Has ks e → ⊥) → at_entry ks at none e ≡ none
  at_entry-none [] at none e miss = refl
  at_entry-none (k ∷ ks) at none e miss = elim (one_entry k e) [
    | inl s ↦ absurd (miss (0, ap Some s.0))
    | inr s ↦ ap (λ (t : Bool). cond t (at 0) (at_entry ks (λ i. at (suc i)) none e)) s.1 ∙ at_entry-none ks (λ i. at (suc i)) none e (λ h. miss (suc h.0, h.1))
  ]

  -- an entry has a number at which it is looked up, or none
  pub at_entry-or : (ks : List Entry) (at : ℕ → X) (none : X) (e : Entry) → (at_entry ks at none e ≡ none) ⊎ ((i : ℕ) × (slice_get ks i ≡ Some e) × (at_entry ks at none e ≡ at i))
  at_entry-or [] at none e = inl refl
  at_entry-or (k ∷ ks) at none e = elim (one_entry k e) [
    | inl s ↦ inr (0, ap Some s.0, here k ks at none e s.0)
    | inr s ↦
        let skip : at_entry (k ∷ ks) at none e ≡ at_entry ks (λ i. at (suc i)) none e = ap (λ (t : Bool). cond t (at 0) (at_entry ks (λ i. at (suc i)) none e)) s.1 in
        elim (at_entry-or ks (λ i. at (suc i)) none e) [
          | inl n ↦ inl (skip ∙ n)
          | inr h ↦ inr (suc h.0, h.1, skip ∙ h.2)
        ]
  ]

  -- what stands at its numbers alone counts
  pub at_entry-same : (ks : List Entry) (at to : ℕ → X) (none : X) (e : Entry) → ((i : ℕ) → slice_get ks i ≡ Some e → at i ≡ to i) → at_entry ks at none e ≡ at_entry ks to none e
  at_entry-same [] at to none e h = refl
  at_entry-same (k ∷ ks) at to none e h = elim (one_entry k e) [
    | inl s ↦ here k ks at none e s.0 ∙ h 0 (ap Some s.0) ∙ sym (here k ks to none e s.0)
    | inr s ↦ ap (λ (r : X). cond (entry.eq-value.it k e) (at 0) r) (at_entry-same ks (λ i. at (suc i)) (λ i. to (suc i)) none e (λ i g. h (suc i) g))
        ∙ ap (λ (t : Bool). cond t (at 0) (at_entry ks (λ i. to (suc i)) none e)) s.1 ∙ sym (ap (λ (t : Bool). cond t (to 0) (at_entry ks (λ i. to (suc i)) none e)) s.1)
  ]

  -- a number more at which there is nothing
  pub at_entry-grown : (ks : List Entry) (k : Entry) (at : ℕ → X) (none : X) (e : Entry) → at (length ks) ≡ none → at_entry (ks ++ k ∷ []) at none e ≡ at_entry ks at none e
  at_entry-grown [] k at none e h = by (entry.eq-value.it k e)
    where
      by : (t : Bool) → cond t (at 0) none ≡ none
      by true = h
      by false = refl
  at_entry-grown (x ∷ ks) k at none e h = ap (λ (r : X). cond (entry.eq-value.it x e) (at 0) r) (at_entry-grown ks k (λ i. at (suc i)) none e h)
