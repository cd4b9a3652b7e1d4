-- A list in which each element stands once isn't longer than one that has its elements.
use Rattle.std.proofs.Common.{◌≡◌, ℕ, zero, suc, ◌≤◌, List, [], ◌∷◌, length, slice_get, Some, refl, sym, ap, arith}
use Rattle.lists.specs.Lists.{Has, IsApart, HasMore}
use Rattle.demand_set.specs.Walks.{HasAtMost}

module _ {X : Type 0} where
  -- the list without what stands at a place
  abbrev pub without : List X → ℕ → List X
  without [] j = []
  without (y ∷ ys) zero = ys
  without (y ∷ ys) (suc j) = y ∷ without ys j

  -- one element less
  length-without : (ys : List X) (j : ℕ) (x : X) → slice_get ys j ≡ Some x → suc (length (without ys j)) ≡ length ys
  length-without [] j x h = cc
  length-without (y ∷ ys) zero x h = refl
  length-without (y ∷ ys) (suc j) x h = ap suc (length-without ys j x h)

  -- what stands elsewhere is still there
  Has-without : (ys : List X) (j i : ℕ) (x : X) → slice_get ys i ≡ Some x → (i ≡ j → ⊥) → Has (without ys j) x
  Has-without [] j i x h not = cc
  Has-without (y ∷ ys) zero zero x h not = absurd (not refl)
  Has-without (y ∷ ys) zero (suc i) x h not = (i, h)
  Has-without (y ∷ ys) (suc j) zero x h not = (0, h)
  Has-without (y ∷ ys) (suc j) (suc i) x h not = let p = Has-without ys j i x h (λ e. not (ap suc e)) in (suc p.0, p.1)

  -- a list without doubles is no longer than one that has its elements
  pub length-IsApart : (xs ys : List X) → IsApart xs → ((x : X) → Has xs x → Has ys x) → length xs ≤ length ys
  length-IsApart [] ys apart among = omega arith
  length-IsApart (x ∷ xs) ys apart among =
      let here = among x (0, refl) in
      let rest = length-IsApart xs (without ys here.0) (λ i j y p q. lower i j (apart (suc i) (suc j) y p q)) (λ y has. other here y has) in
      omega (arith, rest, length-without ys here.0 x here.1)
    where
      lower : (i j : ℕ) → suc i ≡ suc j → i ≡ j
      lower i j e = cc

      other : (here : Has ys x) (y : X) → Has xs y → Has (without ys here.0) y
      other here y has = let p = among y (suc has.0, has.1) in Has-without ys here.0 p.0 y p.1 (λ e. twice here p e)
        where
          twice : (here : Has ys x) (p : Has ys y) → p.0 ≡ here.0 → ⊥
          twice here p e =
              let same : y ≡ x = cc (p.1, here.1, ap (slice_get ys) e) in
              let at : 0 ≡ suc has.0 = apart 0 (suc has.0) y (ap Some (sym same)) has.1 in
              absurd (omega (arith, at))

  -- not both more and at most
  pub HasMore-not : {P : X → Type 0} (bound : ℕ) → HasMore P bound → HasAtMost P bound → ⊥
  HasMore-not bound more most =
      let le = length-IsApart more.some most.some more.apart (λ x here. most.all x (more.each x here)) in
      omega (arith, le, more.more, most.few)
