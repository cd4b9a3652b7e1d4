-- Elements of a list, of its front, and of a list that was changed.
use Rattle.std.proofs.Common.{◌≡◌, ℕ, zero, suc, ◌+◌, ◌<◌, ◌≤◌, ◌⊎◌, Some, List, [], ◌∷◌, ◌++◌, length, get_or, slice_get, refl, sym, ap, subst, ◌∙◌, inl, inr, arith, take}
use Rattle.std.specs.List.{Contains}
use Rattle.std.proofs.lemmas.Option.{slice_get_within, slice_get-get_or, get_or_from_slice_get}
use Rattle.std.proofs.lemmas.List.{take_more, take_all, take-append-le}
use Rattle.std.proofs.lemmas.List.Elements.{Contains-push, Contains-push_cases, Contains-append_left}

-- the first of a list
pub Contains-nil : {X : Type 0} (x : X) → Contains [] x → ⊥
Contains-nil x h = absurd (omega (arith, h.1))

-- an element of the first i + 1
pub Contains-take_more : {X : Type 0} (xs : List X) (i : ℕ) (d x : X) → i < length xs → Contains (take (i + 1) xs) x → Contains (take i xs) x ⊎ (get_or xs i d ≡ x)
Contains-take_more xs i d x h c = Contains-push_cases (take i xs) (get_or xs i d) x (rw (take_more xs i d) at c)

pub Contains-take_kept : {X : Type 0} (xs : List X) (i : ℕ) (d x : X) → i < length xs → Contains (take i xs) x → Contains (take (i + 1) xs) x
Contains-take_kept xs i d x h c = rw (take_more xs i d) (Contains-append_left (take i xs) _ x c)

pub Contains-take_last : {X : Type 0} (xs : List X) (i : ℕ) (d : X) → i < length xs → Contains (take (i + 1) xs) (get_or xs i d)
Contains-take_last xs i d h = rw (take_more xs i d) (Contains-push (take i xs) (get_or xs i d))

pub Contains-at : {X : Type 0} (xs : List X) (i : ℕ) (x : X) → slice_get xs i ≡ Some x → Contains xs x
Contains-at xs i x h = (i, slice_get_within xs i x h, get_or_from_slice_get xs i x x h)

pub slice_get-append_below : {X : Type 0} (xs ys : List X) (i : ℕ) → i < length xs → slice_get (xs ++ ys) i ≡ slice_get xs i
slice_get-append_below [] ys i h = absurd (omega arith)
slice_get-append_below (x ∷ xs) ys zero h = refl
slice_get-append_below (x ∷ xs) ys (suc i) h = slice_get-append_below xs ys i (omega arith)

-- an element of a list with one more at its end
pub slice_get-push_cases : {X : Type 0} (xs : List X) (x y : X) (i : ℕ) → slice_get (xs ++ x ∷ []) i ≡ Some y → (slice_get xs i ≡ Some y) ⊎ ((i ≡ length xs) × (x ≡ y))
slice_get-push_cases [] x y zero h = inr (refl, cc)
slice_get-push_cases [] x y (suc i) h = cc
slice_get-push_cases (z ∷ xs) x y zero h = inl h
slice_get-push_cases (z ∷ xs) x y (suc i) h = elim (slice_get-push_cases xs x y i h) [ inl p ↦ inl p | inr p ↦ inr (ap suc p.0, p.1) ]

-- a fact of each element and those before it, when one more goes to the end
pub slice_get-take_push : {X : Type 0} (P : List X → X → Type 0) (xs : List X) (x : X) → ((i : ℕ) (y : X) → slice_get xs i ≡ Some y → P (take i xs) y) → P xs x
    → (i : ℕ) (y : X) → slice_get (xs ++ x ∷ []) i ≡ Some y → P (take i (xs ++ x ∷ [])) y
slice_get-take_push P xs x each last i y h = elim (slice_get-push_cases xs x y i h) [
  | inl old ↦
      let within : i ≤ length xs = omega (arith, slice_get_within xs i y old) in
      subst (λ ys. P ys y) (sym (take-append-le i xs (x ∷ []) within)) (each i y old)
  | inr new ↦
      let whole = ap (λ k. take k (xs ++ x ∷ [])) new.0 ∙ take-append-le (length xs) xs (x ∷ []) (omega arith) ∙ take_all (length xs) xs (omega arith) in
      subst (λ ys. P ys y) (sym whole) (subst (P xs) new.1 last)
]

-- what is read doesn't depend on the default
pub same_read : {X : Type 0} (xs : List X) (i : ℕ) (d e : X) → i < length xs → get_or xs i d ≡ get_or xs i e
same_read xs i d e h = get_or_from_slice_get xs i (get_or xs i e) d (slice_get-get_or xs i e h)
