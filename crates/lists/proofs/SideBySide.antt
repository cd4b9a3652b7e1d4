-- Lists side by side, from none on, that grow at the end.
use Rattle.std.proofs.Common.{refl, ◌≡◌, ℕ, ◌+◌, ◌<◌, ◌≤◌, ◌++◌, List, [], ◌∷◌, length, take, get_or, length-append, sym, subst, inl, inr, arith}
use Rattle.std.proofs.lemmas.List.{take_all, take_more}
use Rattle.lists.proofs.Places.{slice_get-below, slice_get-pushed}
use Rattle.lists.specs.Lists.{Each}

-- lists without elements stand in each relation
pub Each-nil : {X Y : Type 0} (R : X → Y → Type 0) → Each R [] []
Each-nil R = record { as_many = refl; each = λ i x y there there_too. cc }

-- one element more at the end of each
pub Each-push : {X Y : Type 0} (R : X → Y → Type 0) (xs : List X) (ys : List Y) (x : X) (y : Y) → Each R xs ys → R x y → Each R (xs ++ x ∷ []) (ys ++ y ∷ [])
Each-push R xs ys x y before last = record {
  as_many = omega (arith, length-append xs (x ∷ []), length-append ys (y ∷ []), before.as_many);
  each = λ i a b p q. elim (slice_get-pushed xs x i a p) [
    | inl old ↦ elim (slice_get-pushed ys y i b q) [
      | inl too ↦ before.each i a b old too
      | inr new ↦ absurd (omega (arith, new.0, slice_get-below xs i a old, before.as_many))
    ]
    | inr end ↦ elim (slice_get-pushed ys y i b q) [
      | inl old ↦ absurd (omega (arith, end.0, slice_get-below ys i b old, before.as_many))
      | inr new ↦ subst (λ b. R a b) (sym new.1) (subst (λ a. R a y) (sym end.1) last)
    ]
  ];
}

-- the same of the first elements of a list, and the next one
pub Each-more : {X Y : Type 0} (R : X → Y → Type 0) (xs : List X) (ys now : List Y) (i : ℕ) (d : X) (y : Y) → i < length xs → now ≡ ys ++ y ∷ []
    → Each R (take i xs) ys → R (get_or xs i d) y → Each R (take (i + 1) xs) now
Each-more R xs ys now i d y below put before last =
    subst (λ zs. Each R zs now) (sym (take_more xs i d below))
    (subst (Each R (take i xs ++ get_or xs i d ∷ [])) (sym put) (Each-push R (take i xs) ys (get_or xs i d) y before last))

-- all elements
pub Each-all : {X Y : Type 0} (R : X → Y → Type 0) (xs : List X) (ys now : List Y) (i : ℕ) → length xs ≤ i → now ≡ ys → Each R (take i xs) ys → Each R xs now
Each-all R xs ys now i past same each = subst (Each R xs) (sym same) (subst (λ zs. Each R zs ys) (take_all i xs past) each)
