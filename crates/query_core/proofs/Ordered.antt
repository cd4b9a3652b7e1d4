-- Lists in an order that goes one way only.
use Rattle.std.proofs.Common.{◌≡◌, ◌⊎◌, inl, inr, ℕ, zero, suc, ◌<◌, List, [], ◌∷◌, Some, length, slice_get, get_or, refl, sym, ◌∙◌, subst, arith}
use Rattle.std.specs.List.{AllPairs}
use Rattle.std.proofs.lemmas.Option.{get_or_from_slice_get}
use Rattle.lists.specs.Lists.{Has, IsApart}
use Rattle.lists.proofs.Places.{slice_get-below}
use Rattle.lists.proofs.Joined.{AllPairs-at}

module _ {X : Type 0} (R : X → X → Type 0) (one_way : (x y : X) → R x y → R y x → ⊥) where
  -- no element comes before itself
  not_itself : (x : X) → R x x → ⊥
  not_itself x r = one_way x x r r

  -- so none stands twice
  pub AllPairs-apart : (xs : List X) → AllPairs R xs → IsApart xs
  AllPairs-apart xs pairs i j x p q =
      let not_less : i < j → ⊥ = λ less. not_itself x (AllPairs-at R xs i j x x pairs less p q) in
      let not_more : j < i → ⊥ = λ more. not_itself x (AllPairs-at R xs j i x x pairs more q p) in
      omega (arith, not_less, not_more)

  -- the elements behind the first
  AllPairs-tail : (x : X) (xs : List X) → AllPairs R (x ∷ xs) → AllPairs R xs
  AllPairs-tail x xs pairs i j d less within = pairs (suc i) (suc j) d (omega arith) (omega arith)

  -- what stands in a list stands first or behind
  has_cases : (x y : X) (xs : List X) → Has (x ∷ xs) y → (y ≡ x) ⊎ Has xs y
  has_cases x y xs (zero, e) = inl cc
  has_cases x y xs (suc i, e) = inr (i, e)

  -- the elements of a list stand in it in one order
  pub ordered_one : (xs ys : List X) → AllPairs R xs → AllPairs R ys → ((x : X) → Has xs x → Has ys x) → ((x : X) → Has ys x → Has xs x) → xs ≡ ys
  ordered_one [] [] p q to from = refl
  ordered_one [] (y ∷ ys) p q to from = let has = from y (0, refl) in cc (has.1)
  ordered_one (x ∷ xs) [] p q to from = let has = to x (0, refl) in cc (has.1)
  ordered_one (x ∷ xs) (y ∷ ys) p q to from =
      let rest = ordered_one xs ys (AllPairs-tail x xs p) (AllPairs-tail y ys q)
      (λ z has. behind x y xs ys p same (λ w h. to w h) z has)
      (λ z has. behind y x ys xs q (sym same) (λ w h. from w h) z has) in
      cc (rest, same)
    where
      same : x ≡ y
      same = elim (has_cases y x ys (to x (0, refl))) [
        | inl e ↦ e
        | inr there ↦ elim (has_cases x y xs (from y (0, refl))) [
          | inl e ↦ sym e
          | inr here ↦ absurd (one_way x y (AllPairs-at R (x ∷ xs) 0 (suc here.0) x y p (omega arith) refl here.1) (AllPairs-at R (y ∷ ys) 0 (suc there.0) y x q (omega arith) refl there.1))
        ]
      ]

      behind : (x y : X) (xs ys : List X) → AllPairs R (x ∷ xs) → x ≡ y → ((z : X) → Has (x ∷ xs) z → Has (y ∷ ys) z) → (z : X) → Has xs z → Has ys z
      behind x y xs ys pairs e to z has = elim (has_cases y z ys (to z (suc has.0, has.1))) [
        | inl first ↦
            let itself : R x z = AllPairs-at R (x ∷ xs) 0 (suc has.0) x z pairs (omega arith) refl has.1 in
            absurd (not_itself x (subst (λ (w : X). R x w) (first ∙ sym e) itself))
        | inr there ↦ there
      ]
