-- Lemmas on lists by their places.
use Rattle.std.proofs.Common.{◌≡◌, ℕ, zero, suc, ◌+◌, ◌<◌, List, [], ◌∷◌, map, flat_map, slice_get, get_or, Some, All, refl, sym, ap, ◌∙◌, subst, inl, inr, arith}
use Rattle.std.specs.List.{enumerate_from}
use Rattle.std.specs.Option.{option_map}
use Rattle.std.proofs.lemmas.Bool.{cases_order}
use Rattle.std.proofs.lemmas.Option.{get_or_from_slice_get, slice_get-get_or, slice_get-map}
use Rattle.lists.specs.Lists.{Has, IsApart, AreIncreasing, Each, FirstSeen}
use Rattle.lists.proofs.Places.{IsApart-adds, slice_get-below, slice_get-there}
use Rattle.lists.specs.Lists.{none, next}
use Rattle.lists.proofs.Joined.{slice_get-appended}

module _ {X : Type 0} where
  -- a fact of each element by its place
  pub all_at : (P : X → Type 0) (xs : List X) → ((i : ℕ) (x : X) → slice_get xs i ≡ Some x → P x) → All P xs
  all_at P xs each k d h = each k (get_or xs k d) (slice_get-get_or xs k d h)

  -- the fact of the element at a place
  pub at_all : (P : X → Type 0) (xs : List X) (i : ℕ) (x : X) → All P xs → slice_get xs i ≡ Some x → P x
  at_all P xs i x all e = subst P (get_or_from_slice_get xs i x x e) (all i x (slice_get-below xs i x e))

  -- one place has one element
  pub same_place : (xs : List X) (i : ℕ) (x y : X) → slice_get xs i ≡ Some x → slice_get xs i ≡ Some y → x ≡ y
  same_place xs i x y p q = cc

  -- elements in the order of first use stand at one place each
  pub first_seen_apart : {uses new : List X} → FirstSeen uses new → IsApart new
  first_seen_apart none = λ i j x p q. cc
  first_seen_apart (next {old} {new} {x} seen adds) = IsApart-adds old new x (first_seen_apart seen) adds

module _ {X Y : Type 0} where
  -- what stands beside an element of the second list
  pub each_right : (R : X → Y → Type 0) (xs : List X) (ys : List Y) (i : ℕ) (y : Y) → Each R xs ys → slice_get ys i ≡ Some y
      → (x : X) × (slice_get xs i ≡ Some x) × R x y
  each_right R xs ys i y p e =
      let x = slice_get-there xs i (subst (λ n. i < n) (sym p.as_many) (slice_get-below ys i y e)) in
      (x.0, x.1, p.each i x.0 y x.1 e)

  -- what stands beside an element of the first list
  pub each_left : (R : X → Y → Type 0) (xs : List X) (ys : List Y) (i : ℕ) (x : X) → Each R xs ys → slice_get xs i ≡ Some x
      → (y : Y) × (slice_get ys i ≡ Some y) × R x y
  each_left R xs ys i x p e =
      let y = slice_get-there ys i (subst (λ n. i < n) p.as_many (slice_get-below xs i x e)) in
      (y.0, y.1, p.each i x y.0 e y.1)

  -- what stands in the image of a list
  pub map_at : (f : X → Y) (xs : List X) (i : ℕ) (x : X) → slice_get xs i ≡ Some x → slice_get (map f xs) i ≡ Some (f x)
  map_at f xs i x e = slice_get-map f xs i ∙ ap (option_map f) e

  -- an element of the image of a list is that of an element
  pub at_map : (f : X → Y) (xs : List X) (i : ℕ) (y : Y) → slice_get (map f xs) i ≡ Some y → (x : X) × (slice_get xs i ≡ Some x) × (y ≡ f x)
  at_map f [] i y e = cc
  at_map f (x ∷ xs) zero y e = (x, refl, cc)
  at_map f (x ∷ xs) (suc i) y e = at_map f xs i y e

  -- an element of joined lists stands in one of them
  pub in_flat_map : (f : X → List Y) (xs : List X) (i : ℕ) (y : Y) → slice_get (flat_map f xs) i ≡ Some y → (x : X) × Has xs x × Has (f x) y
  in_flat_map f [] i y e = cc
  in_flat_map f (x ∷ xs) i y e = elim (slice_get-appended (f x) (flat_map f xs) i y e) [
    | inl h ↦ (x, (0, refl), (i, h))
    | inr h ↦ let r = in_flat_map f xs h.0 y h.2 in (r.0, (suc r.1.0, r.1.1), r.2)
  ]

-- an element with its number
pub at_enumerate : {X : Type 0} (n : ℕ) (xs : List X) (i : ℕ) (p : ℕ × X) → slice_get (enumerate_from n xs) i ≡ Some p
    → (p.0 ≡ n + i) × (slice_get xs i ≡ Some p.1)
at_enumerate n [] i p e = cc
at_enumerate n (x ∷ xs) zero p e = let f : (n, x) ≡ p = cc in let a : n ≡ p.0 = ap (λ q. q.0) f in let b : x ≡ p.1 = ap (λ q. q.1) f in (omega arith, ap Some b)
at_enumerate n (x ∷ xs) (suc i) p e = let r = at_enumerate (n + 1) xs i p e in (omega (arith, r.0), r.1)

-- a number stands at one place among increasing ones
pub increasing_apart : (xs : List ℕ) → AreIncreasing xs → IsApart xs
increasing_apart xs up i j x p q =
    let less : (i j : ℕ) → slice_get xs i ≡ Some x → slice_get xs j ≡ Some x → i < j → ⊥ =
    λ i j p q below. let h = up i j x below (slice_get-below xs j x q) in let a = get_or_from_slice_get xs i x x p in let b = get_or_from_slice_get xs j x x q in omega (arith, h, a, b) in
    elim (cases_order i j) [ inl same ↦ same | inr apart ↦ elim apart [ inl below ↦ absurd (less i j p q below) | inr above ↦ absurd (less j i q p above) ] ]
