-- Lemmas on the places of a list.
use Rattle.std.proofs.Common.{◌≡◌, ◌≢◌, ◌↔◌, ◌⊎◌, ℕ, zero, suc, ◌+◌, ◌<◌, List, [], ◌∷◌, ◌++◌, Some, get_or, length, slice_get, take, refl, sym, ap, ◌∙◌, subst, inl, inr, arith, length-take}
use Rattle.std.specs.List.{slice_set}
use Rattle.std.proofs.lemmas.List.{take_more}
use Rattle.std.proofs.lemmas.Option.{get_or_from_slice_get, slice_get-get_or}
use Rattle.lists.specs.Lists.{Adds, Has, IsApart}

module _ {X : Type 0} where
  -- an element in front stays where it is
  pub slice_get-append_left : (xs ys : List X) (i : ℕ) (x : X) → slice_get xs i ≡ Some x → slice_get (xs ++ ys) i ≡ Some x
  slice_get-append_left [] ys i x h = cc
  slice_get-append_left (y ∷ xs) ys zero x h = h
  slice_get-append_left (y ∷ xs) ys (suc i) x h = slice_get-append_left xs ys i x h

  -- the element that was put last
  pub slice_get-push : (xs : List X) (x : X) → slice_get (xs ++ x ∷ []) (length xs) ≡ Some x
  slice_get-push [] x = refl
  slice_get-push (y ∷ xs) x = slice_get-push xs x

  -- what stands in a list that was added to
  pub slice_get-pushed : (xs : List X) (x : X) (i : ℕ) (y : X) → slice_get (xs ++ x ∷ []) i ≡ Some y → (slice_get xs i ≡ Some y) ⊎ ((i ≡ length xs) × (y ≡ x))
  slice_get-pushed [] x zero y h = inr (refl, cc)
  slice_get-pushed [] x (suc i) y h = cc
  slice_get-pushed (z ∷ xs) x zero y h = inl h
  slice_get-pushed (z ∷ xs) x (suc i) y h = elim (slice_get-pushed xs x i y h) [ inl a ↦ inl a | inr b ↦ inr (ap suc b.0, b.1) ]

  -- where an element stands
  pub slice_get-below : (xs : List X) (i : ℕ) (x : X) → slice_get xs i ≡ Some x → i < length xs
  slice_get-below [] i x h = cc
  slice_get-below (y ∷ xs) zero x h = omega arith
  slice_get-below (y ∷ xs) (suc i) x h = omega (arith, slice_get-below xs i x h)

  -- an element stands at each place of the list
  pub slice_get-there : (xs : List X) (i : ℕ) → i < length xs → (x : X) × (slice_get xs i ≡ Some x)
  slice_get-there [] i h = absurd (omega arith)
  slice_get-there (y ∷ xs) zero h = (y, refl)
  slice_get-there (y ∷ xs) (suc i) h = slice_get-there xs i (omega arith)

  -- the element that was put in the place of another one
  pub slice_get-set_same : (xs : List X) (i : ℕ) (x : X) → i < length xs → slice_get (slice_set xs i x) i ≡ Some x
  slice_get-set_same [] i x h = absurd (omega arith)
  slice_get-set_same (y ∷ xs) zero x h = refl
  slice_get-set_same (y ∷ xs) (suc i) x h = slice_get-set_same xs i x (omega arith)

  -- the others stay
  pub slice_get-set_other : (xs : List X) (i j : ℕ) (x : X) → j ≢ i → slice_get (slice_set xs i x) j ≡ slice_get xs j
  slice_get-set_other [] i j x h = refl
  slice_get-set_other (y ∷ xs) zero zero x h = absurd (h refl)
  slice_get-set_other (y ∷ xs) zero (suc j) x h = refl
  slice_get-set_other (y ∷ xs) (suc i) zero x h = refl
  slice_get-set_other (y ∷ xs) (suc i) (suc j) x h = slice_get-set_other xs i j x (λ e. h (ap suc e))

  -- an element as indexing reads it
  pub slice_get-read : (xs : List X) (i : ℕ) (x : X) → i < length xs → x ≡ get_or xs i x → slice_get xs i ≡ Some x
  slice_get-read xs i x below read = slice_get-get_or xs i x below ∙ ap Some (sym read)

  -- the front of a list up to behind an element
  pub take-next : (xs : List X) (i : ℕ) (x : X) → slice_get xs i ≡ Some x → take (i + 1) xs ≡ take i xs ++ x ∷ []
  take-next xs i x there =
      take_more xs i x (slice_get-below xs i x there) ∙ ap (λ y. take i xs ++ y ∷ []) (get_or_from_slice_get xs i x x there)

  -- the front of a list up to an element
  pub length-taken : (xs : List X) (i : ℕ) (x : X) → slice_get xs i ≡ Some x → length (take i xs) ≡ i
  length-taken xs i x there = let below : i < length xs = slice_get-below xs i x there in omega (arith, length-take i xs)

  -- the elements of a list that was added to
  pub Has-push : (xs : List X) (x y : X) → Has (xs ++ x ∷ []) y ↔ (Has xs y ⊎ (y ≡ x))
  Has-push xs x y = (
    (λ has. elim (slice_get-pushed xs x has.0 y has.1) [ inl a ↦ inl (has.0, a) | inr b ↦ inr b.1 ]),
    (λ either. elim either [ inl has ↦ (has.0, slice_get-append_left xs _ has.0 y has.1) | inr e ↦ (length xs, rw e (slice_get-push xs x)) ]),
  )

  -- a new element leaves all apart
  pub IsApart-push : (xs : List X) (x : X) → IsApart xs → (Has xs x → ⊥) → IsApart (xs ++ x ∷ [])
  IsApart-push xs x apart new i j y p q =
      elim (slice_get-pushed xs x i y p) [
        | inl a ↦ elim (slice_get-pushed xs x j y q) [ inl b ↦ apart i j y a b | inr b ↦ absurd (new (i, subst (λ z. slice_get xs i ≡ Some z) b.1 a)) ]
        | inr a ↦ elim (slice_get-pushed xs x j y q) [ inl b ↦ absurd (new (j, subst (λ z. slice_get xs j ≡ Some z) a.1 b)) | inr b ↦ a.0 ∙ sym b.0 ]
      ]

  pub IsApart-adds : (old new : List X) (x : X) → IsApart old → Adds old x new → IsApart new
  IsApart-adds old new x apart adds =
      elim adds [
        | inl a ↦ rw a.1 apart
        | inr b ↦ rw b.1 (IsApart-push old x apart b.0)
      ]

  pub Has-adds_itself : (old new : List X) (x : X) → Adds old x new → Has new x
  Has-adds_itself old new x adds = elim adds [ inl a ↦ rw a.1 a.0 | inr b ↦ rw b.1 (length old, slice_get-push old x) ]

  pub slice_get-adds : (old new : List X) (x : X) → Adds old x new → (i : ℕ) (y : X) → slice_get old i ≡ Some y → slice_get new i ≡ Some y
  slice_get-adds old new x adds i y h = elim adds [ inl a ↦ rw a.1 h | inr b ↦ rw b.1 (slice_get-append_left old _ i y h) ]

  pub slice_get-added : (old new : List X) (x : X) → Adds old x new → (i : ℕ) (y : X) → slice_get new i ≡ Some y → (slice_get old i ≡ Some y) ⊎ (y ≡ x)
  slice_get-added old new x adds i y h =
      elim adds [
        | inl a ↦ inl (rw a.1 at h)
        | inr b ↦ elim (slice_get-pushed old x i y (rw b.1 at h)) [ inl p ↦ inl p | inr p ↦ inr p.1 ]
      ]

  -- lists of one length are equal where they have equal elements at each place
  pub slice_get-extensional : (xs ys : List X) → length xs ≡ length ys → ((i : ℕ) (x y : X) → slice_get xs i ≡ Some x → slice_get ys i ≡ Some y → x ≡ y) → xs ≡ ys
  slice_get-extensional [] [] e each = refl
  slice_get-extensional [] (y ∷ ys) e each = absurd (omega arith)
  slice_get-extensional (x ∷ xs) [] e each = absurd (omega arith)
  slice_get-extensional (x ∷ xs) (y ∷ ys) e each =
      let rest : xs ≡ ys = slice_get-extensional xs ys (omega arith) (λ i a b p q. each (suc i) a b p q) in
      let first : x ≡ y = each 0 x y refl refl in
      cc
