-- What a loop collects, element by element.
use Rattle.std.proofs.Common.{◌≡◌, ◌↔◌, ◌⊎◌, ℕ, ◌+◌, ◌<◌, ◌≤◌, List, [], ◌∷◌, ◌++◌, length, take, get_or, refl, sym, subst, inl, inr}
use Rattle.std.proofs.lemmas.List.{take_all}
use Rattle.lists.specs.Lists.{Has}
use Rattle.lists.proofs.Joined.{Has-either, Has-left, Has-right}
use Rattle.demand_set.proofs.Appended.{Has-one, Has-take_kept, Has-take_last, Has-take_more}

-- it comes from one of the elements
abbrev pub From : {X W : Type 0} → (X → W → Type 0) → List X → W → Type 0
From {X} R xs w = (x : X) × Has xs x × R x w

module _ {X W : Type 0} (R : X → W → Type 0) (Start : W → Type 0) where
  -- nothing comes from no element
  pub collected_none : (w : W) → Start w ↔ (Start w ⊎ From R [] w)
  collected_none w = (λ h. inl h, λ h. elim h [ inl a ↦ a | inr f ↦ absurd (let has = f.1 in cc (has.1)) ])

  -- one element more
  pub collected_more : (xs : List X) (i : ℕ) (d : X) → i < length xs → (Old New : W → Type 0) → ((w : W) → Old w ↔ (Start w ⊎ From R (take i xs) w))
      → ((w : W) → New w ↔ (Old w ⊎ R (get_or xs i d) w)) → (w : W) → New w ↔ (Start w ⊎ From R (take (i + 1) xs) w)
  collected_more xs i d below Old New before now w = (
    λ h. elim ((now w).0 h) [
      | inl old ↦ elim ((before w).0 old) [
        | inl a ↦ inl a
        | inr f ↦ inr (f.0, Has-take_kept xs i d f.0 below f.1, f.2)
      ]
      | inr r ↦ inr (get_or xs i d, Has-take_last xs i d below, r)
    ],
    λ h. (now w).1 (elim h [
      | inl a ↦ inl ((before w).1 (inl a))
      | inr f ↦ elim (Has-take_more xs i d f.0 below f.1) [
        | inl earlier ↦ inl ((before w).1 (inr (f.0, earlier, f.2)))
        | inr last ↦ inr (subst (λ x. R x w) last f.2)
      ]
    ]),
  )

  -- all of them
  pub collected_all : (xs : List X) (i : ℕ) → length xs ≤ i → (All : W → Type 0) → ((w : W) → All w ↔ (Start w ⊎ From R (take i xs) w))
      → (w : W) → All w ↔ (Start w ⊎ From R xs w)
  collected_all xs i past All are w = subst (λ (ys : List X). All w ↔ (Start w ⊎ From R ys w)) (take_all i xs past) (are w)

-- what was put last
pub put_one : {W : Type 0} (old new : List W) (x : W) → new ≡ old ++ x ∷ [] → (w : W) → Has new w ↔ (Has old w ⊎ (w ≡ x))
put_one old new x is w = subst (λ ws. Has ws w ↔ (Has old w ⊎ (w ≡ x))) (sym is) (
  λ h. elim (Has-either old (x ∷ []) w h) [ inl a ↦ inl a | inr b ↦ inr (Has-one x w b) ],
  λ h. elim h [ inl a ↦ Has-left old (x ∷ []) w a | inr e ↦ Has-right old (x ∷ []) w (subst (Has (x ∷ [])) (sym e) (0, refl)) ],
)

-- two that were put last
pub put_two : {W : Type 0} (old mid new : List W) (x y : W) → mid ≡ old ++ x ∷ [] → new ≡ mid ++ y ∷ [] → (w : W) → Has new w ↔ (Has old w ⊎ ((w ≡ x) ⊎ (w ≡ y)))
put_two old mid new x y first second w = (
  λ h. elim ((put_one mid new y second w).0 h) [
    | inl a ↦ elim ((put_one old mid x first w).0 a) [ inl b ↦ inl b | inr e ↦ inr (inl e) ]
    | inr e ↦ inr (inr e)
  ],
  λ h. elim h [
    | inl a ↦ (put_one mid new y second w).1 (inl ((put_one old mid x first w).1 (inl a)))
    | inr both ↦ elim both [
      | inl e ↦ (put_one mid new y second w).1 (inl ((put_one old mid x first w).1 (inr e)))
      | inr e ↦ (put_one mid new y second w).1 (inr e)
    ]
  ],
)

-- nothing was put
pub put_none : {W : Type 0} (old new : List W) (P : W → Type 0) → new ≡ old → ((w : W) → P w → ⊥) → (w : W) → Has new w ↔ (Has old w ⊎ P w)
put_none old new P same none w = subst (λ ws. Has ws w ↔ (Has old w ⊎ P w)) (sym same) (λ h. inl h, λ h. elim h [ inl a ↦ a | inr b ↦ absurd (none w b) ])

-- where one thing was put, and nothing came from any element yet
pub only_one : {X W : Type 0} (R : X → W → Type 0) (x : W) (new : List W) → new ≡ [] ++ x ∷ [] → (w : W) → Has new w ↔ ((w ≡ x) ⊎ From R [] w)
only_one R x new is w = (
  λ h. elim ((put_one [] new x is w).0 h) [ inl a ↦ absurd (cc (a.1)) | inr e ↦ inl e ],
  λ h. elim h [ inl e ↦ (put_one [] new x is w).1 (inr e) | inr f ↦ absurd (let has = f.1 in cc (has.1)) ],
)

-- where nothing was there, all comes from the elements
pub from_none : {X W : Type 0} (R : X → W → Type 0) (xs : List X) (none all : List W) → none ≡ [] → ((w : W) → Has all w ↔ (Has none w ⊎ From R xs w)) → (w : W) → Has all w ↔ From R xs w
from_none R xs none all empty are w = (
  λ h. elim ((are w).0 h) [ inl a ↦ absurd (let b = subst (λ ws. Has ws w) empty a in cc (b.1)) | inr f ↦ f ],
  λ f. (are w).1 (inr f),
)
