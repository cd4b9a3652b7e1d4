-- A fact of each element of a list.
use Rattle.std.proofs.Common.{◌≡◌, ◌≢◌, ℕ, zero, suc, ◌<◌, List, [], ◌∷◌, ◌++◌, All, Some, true, false, eqb, length, map, slice_get, refl, sym, ◌∙◌, ◌⊎◌, subst, arith, inl, inr, length-set}
use Rattle.std.specs.List.{slice_set}
use Rattle.std.proofs.lemmas.Bool.Decides.{eqb_tells}
use Rattle.std.proofs.lemmas.Option.{get_or_from_slice_get}
use Rattle.lists.proofs.Places.{slice_get-below, slice_get-pushed, slice_get-set_other, slice_get-set_same}
use Rattle.step_rules.specs.Shapes.{EachOf}

module _ {X : Type 0} (P : X → Type 0) where
  pub each_none : EachOf P []
  each_none i x e = cc

  pub each_cons : (x : X) (xs : List X) → P x → EachOf P xs → EachOf P (x ∷ xs)
  each_cons x xs h each zero y e = let same : x ≡ y = cc in subst P same h
  each_cons x xs h each (suc i) y e = each i y e

  pub each_one : (x : X) → P x → EachOf P (x ∷ [])
  each_one x h = each_cons x [] h each_none

  -- one element more at the end
  pub each_push : (xs : List X) (x : X) → EachOf P xs → P x → EachOf P (xs ++ x ∷ [])
  each_push xs x each h i y e = elim (slice_get-pushed xs x i y e) [ inl a ↦ each i y a | inr b ↦ subst P (sym b.1) h ]

  -- without the last element
  pub each_before : (xs : List X) (x : X) → EachOf P (xs ++ x ∷ []) → EachOf P xs
  each_before [] x each = each_none
  each_before (y ∷ xs) x each = each_cons y xs (each zero y refl) (each_before xs x (λ i z e. each (suc i) z e))

  -- the last element
  pub each_last : (xs : List X) (x : X) → EachOf P (xs ++ x ∷ []) → P x
  each_last [] x each = each zero x refl
  each_last (y ∷ xs) x each = each_last xs x (λ i z e. each (suc i) z e)

  -- an element is replaced
  pub each_set : (xs : List X) (k : ℕ) (x : X) → EachOf P xs → P x → EachOf P (slice_set xs k x)
  each_set xs k x each h i y e = by (eqb_tells i k) where
    by : ((eqb i k ≡ true) × (i ≡ k)) ⊎ ((eqb i k ≡ false) × (i ≢ k)) → P y
    by (inl s) =
        let below : i < length (slice_set xs k x) = slice_get-below (slice_set xs k x) i y e in
        let within : k < length xs = omega (arith, length-set xs k x, s.1, below) in
        let same : y ≡ x = cc (e, slice_get-set_same xs k x within, s.1) in subst P (sym same) h
    by (inr n) = each i y (sym (slice_get-set_other xs k i x n.1) ∙ e)

  pub at_all : (xs : List X) (i : ℕ) (x : X) → All P xs → slice_get xs i ≡ Some x → P x
  at_all xs i x all e = subst P (get_or_from_slice_get xs i x x e) (all i x (slice_get-below xs i x e))

-- what a function gives of each element
pub each_append : {X : Type 0} (P : X → Type 0) (xs ys : List X) → EachOf P xs → EachOf P ys → EachOf P (xs ++ ys)
each_append P [] ys a b = b
each_append P (x ∷ xs) ys a b = each_cons P x (xs ++ ys) (a zero x refl) (each_append P xs ys (λ i y e. a (suc i) y e) b)

pub each_map : {X Y : Type 0} (P : Y → Type 0) (f : X → Y) (xs : List X) → EachOf (λ x. P (f x)) xs → EachOf P (map f xs)
each_map P f [] each = each_none P
each_map P f (x ∷ xs) each = each_cons P (f x) (map f xs) (each zero x refl) (each_map P f xs (λ i y e. each (suc i) y e))

-- one place has one element
pub same_place : {X : Type 0} (xs : List X) (i : ℕ) (x y : X) → slice_get xs i ≡ Some x → slice_get xs i ≡ Some y → x ≡ y
same_place xs i x y p q = cc (p, q)

-- two lists with a last element are equal only where these are, and what stands before
pub last_same : {X : Type 0} (xs ys : List X) (x y : X) → xs ++ x ∷ [] ≡ ys ++ y ∷ [] → (xs ≡ ys) × (x ≡ y)
last_same [] [] x y e = (refl, cc)
last_same [] (z ∷ []) x y e = cc
last_same [] (z ∷ w ∷ ys) x y e = cc
last_same (z ∷ []) [] x y e = cc
last_same (z ∷ w ∷ xs) [] x y e = cc
last_same (z ∷ xs) (w ∷ ys) x y e =
    let rest : xs ++ x ∷ [] ≡ ys ++ y ∷ [] = cc in
    let head : z ≡ w = cc in
    let tail = last_same xs ys x y rest in (cc (head, tail.0), tail.1)
