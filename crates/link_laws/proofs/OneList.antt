-- Lists that are determined.
use Rattle.std.proofs.Common.{◌≡◌, ℕ, ◌<◌, ◌++◌, Bool, true, false, Some, List, [], ◌∷◌, length, refl, sym, ap, ◌∙◌, subst, inl, inr, arith, slice_get, length-append}
use Rattle.std.proofs.lemmas.Bool.{cases_order}
use Rattle.lists.specs.Lists.{Adds, Has, IsApart, AreIncreasing, Each, FirstSeen, IsRepeated}
use Rattle.lists.proofs.Places.{slice_get-below, slice_get-extensional, slice_get-there}
use Rattle.lists.specs.Lists.{none, next}
use Rattle.link_rules.proofs.Runs.{ordered_one}

-- two numbers of which neither is smaller are one
pub number_one : (a b : ℕ) → (a < b → ⊥) → (b < a → ⊥) → a ≡ b
number_one a b below above = elim (cases_order a b) [ inl same ↦ same | inr apart ↦ elim apart [ inl h ↦ absurd (below h) | inr h ↦ absurd (above h) ] ]

-- two flags that say the same are one
pub bool_one : (a b : Bool) → (a ≡ true → b ≡ true) → (b ≡ true → a ≡ true) → a ≡ b
bool_one true b f g = sym (f refl)
bool_one false true f g = g refl
bool_one false false f g = refl

-- increasing lists of the same numbers are one
pub increasing_one : (xs ys : List ℕ) → ((a : ℕ) → Has xs a → Has ys a) → ((a : ℕ) → Has ys a → Has xs a) → AreIncreasing xs → AreIncreasing ys → xs ≡ ys
increasing_one xs ys to from p q = ordered_one (λ a b. a < b) xs ys (λ a b h k below above. omega (arith, below, above)) to from p q

module _ {X Y : Type 0} where
  -- lists beside one list, by two relations that agree, are one
  pub each_two : (R S : X → Y → Type 0) (xs : List X) (ys zs : List Y) → ((i : ℕ) (x : X) (y z : Y) → slice_get xs i ≡ Some x → R x y → S x z → y ≡ z)
      → Each R xs ys → Each S xs zs → ys ≡ zs
  each_two R S xs ys zs one p q =
      slice_get-extensional ys zs (sym p.as_many ∙ q.as_many)
      (λ i y z here there. let at = slice_get-there xs i (subst (λ n. i < n) (sym p.as_many) (slice_get-below ys i y here)) in
      one i at.0 y z at.1 (p.each i at.0 y at.1 here) (q.each i at.0 z at.1 there))

  -- by one relation that has one answer
  pub each_one : (R : X → Y → Type 0) (xs : List X) (ys zs : List Y) → ((x : X) (y z : Y) → R x y → R x z → y ≡ z) → Each R xs ys → Each R xs zs → ys ≡ zs
  each_one R xs ys zs one p q = each_two R R xs ys zs (λ i x y z there a b. one x y z a b) p q

module _ {X : Type 0} where
  -- a list without an element at two places
  pub apart_unless : (xs : List X) → (IsRepeated xs → ⊥) → IsApart xs
  apart_unless xs not i j x p q = number_one i j
      (λ below. not (record { element = x; first = i; again = j; before = below; there = p; there_again = q }))
      (λ below. not (record { element = x; first = j; again = i; before = below; there = q; there_again = p }))

  -- lists with a last element that are one have one front and one last element
  snoc_one : (us vs : List X) (x y : X) → us ++ x ∷ [] ≡ vs ++ y ∷ [] → (us ≡ vs) × (x ≡ y)
  snoc_one [] [] x y e = (refl, cc)
  snoc_one [] (v ∷ vs) x y e = let n = ap (length {A = X}) e in let m = length-append vs (y ∷ []) in absurd (omega (arith, n, m))
  snoc_one (u ∷ us) [] x y e = let n = ap (length {A = X}) e in let m = length-append us (x ∷ []) in absurd (omega (arith, n, m))
  snoc_one (u ∷ us) (v ∷ vs) x y e =
      let first : u ≡ v = cc in
      let rest : us ++ x ∷ [] ≡ vs ++ y ∷ [] = cc in
      let more = snoc_one us vs x y rest in
      let fronts : u ∷ us ≡ v ∷ vs = ap (λ z. z ∷ us) first ∙ ap (λ zs. v ∷ zs) more.0 in
      (fronts, more.1)

  -- what is added to a list makes one list
  adds_one : (old a b : List X) (x : X) → Adds old x a → Adds old x b → a ≡ b
  adds_one old a b x (inl p) (inl q) = p.1 ∙ sym q.1
  adds_one old a b x (inl p) (inr q) = absurd (q.0 p.0)
  adds_one old a b x (inr p) (inl q) = absurd (p.0 q.0)
  adds_one old a b x (inr p) (inr q) = p.1 ∙ sym q.1

  -- where nothing is used nothing is seen
  seen_nothing : {uses new : List X} → FirstSeen uses new → uses ≡ [] → new ≡ []
  seen_nothing none e = refl
  seen_nothing (next {uses} {old} {new} {x} seen adds) e = let n = ap (length {A = X}) e in let m = length-append uses (x ∷ []) in absurd (omega (arith, n, m))

  -- what was seen before the last use
  seen_before : {uses new : List X} → FirstSeen uses new → (front : List X) (last : X) → uses ≡ front ++ last ∷ [] → (old : List X) × FirstSeen front old × Adds old last new
  seen_before none front last e = let n = ap (length {A = X}) e in let m = length-append front (last ∷ []) in absurd (omega (arith, n, m))
  seen_before (next {uses} {old} {new} {x} seen adds) front last e =
      let same = snoc_one uses front x last e in
      (old, subst (λ us. FirstSeen us old) same.0 seen, subst (λ y. Adds old y new) same.1 adds)

  -- elements in the order of first use are one list
  pub first_seen_one : {uses one : List X} → FirstSeen uses one → (two : List X) → FirstSeen uses two → one ≡ two
  first_seen_one none two q = sym (seen_nothing q refl)
  first_seen_one (next {uses} {old} {new} {x} seen adds) two q =
      let before = seen_before q uses x refl in
      let olds = first_seen_one seen before.0 before.1 in
      adds_one before.0 new two x (subst (λ zs. Adds zs x new) olds adds) before.2
