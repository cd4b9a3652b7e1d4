-- Lemmas on lists that are joined, cut, mapped and ordered.
use Rattle.std.proofs.Common.{◌≡◌, ◌↔◌, ◌⊎◌, ℕ, zero, suc, ◌+◌, ◌<◌, List, [], ◌∷◌, ◌++◌, Option, Some, None, get_or, is_some, length, map, slice_get, take, refl, sym, ap, subst, ◌∙◌, inl, inr, arith, true, false, true≢false}
use Rattle.std.specs.List.{AllPairs}
use Rattle.std.proofs.lemmas.Bool.{cases_order}
use Rattle.std.proofs.lemmas.Option.{get_or_from_slice_get}
use Rattle.lists.specs.Lists.{Adds, AreIncreasing, Has, IsFirstOr}
use Rattle.lists.specs.Filings.{row}
use Rattle.lists.proofs.Places.{Has-adds_itself, slice_get-added, slice_get-adds, slice_get-append_left, slice_get-below}

module _ {X : Type 0} where
  -- what stands in two lists, one behind the other, stands in the first, or at a place of the second
  pub slice_get-appended : (xs ys : List X) (i : ℕ) (x : X) → slice_get (xs ++ ys) i ≡ Some x → (slice_get xs i ≡ Some x) ⊎ ((j : ℕ) × (i ≡ length xs + j) × (slice_get ys j ≡ Some x))
  slice_get-appended [] ys i x there = inr (i, omega arith, there)
  slice_get-appended (y ∷ xs) ys zero x there = inl there
  slice_get-appended (y ∷ xs) ys (suc i) x there = elim (slice_get-appended xs ys i x there) [ inl a ↦ inl a | inr b ↦ inr (b.0, omega (arith, b.1), b.2) ]

  -- what stands in the second list stands behind the first
  -- lists joined: an element of the second stands behind the first
  pub slice_get-append_right : (xs ys : List X) (i : ℕ) → slice_get (xs ++ ys) (length xs + i) ≡ slice_get ys i
  slice_get-append_right [] ys i = let e : 0 + i ≡ i = omega arith in ap (slice_get ys) e
  slice_get-append_right (x ∷ xs) ys i = let e : length (x ∷ xs) + i ≡ suc (length xs + i) = omega arith in ap (slice_get ((x ∷ xs) ++ ys)) e ∙ slice_get-append_right xs ys i

  -- what one of two lists has, both together have
  pub Has-left : (xs ys : List X) (x : X) → Has xs x → Has (xs ++ ys) x
  Has-left xs ys x h = (h.0, slice_get-append_left xs ys h.0 x h.1)

  pub Has-right : (xs ys : List X) (x : X) → Has ys x → Has (xs ++ ys) x
  Has-right [] ys x h = h
  Has-right (y ∷ xs) ys x h = let k = Has-right xs ys x h in (suc k.0, k.1)

  -- what both together have, one of them has
  pub Has-either : (xs ys : List X) (x : X) → Has (xs ++ ys) x → Has xs x ⊎ Has ys x
  Has-either xs ys x h = elim (slice_get-appended xs ys h.0 x h.1) [ inl a ↦ inl (h.0, a) | inr b ↦ inr (b.0, b.2) ]

  -- the elements of a list with one in front
  pub Has-cons : (x y : X) (xs : List X) → Has (x ∷ xs) y ↔ ((y ≡ x) ⊎ Has xs y)
  Has-cons x y xs = ((λ has. by has.0 has.1), (λ either. elim either [ inl e ↦ (0, ap Some (sym e)) | inr has ↦ (suc has.0, has.1) ]))
    where
      by : (i : ℕ) → slice_get (x ∷ xs) i ≡ Some y → (y ≡ x) ⊎ Has xs y
      by zero at = inl cc
      by (suc i) at = inr (i, at)

  -- the elements of a list to which one was added
  pub Has-adds : (old new : List X) (x : X) → Adds old x new → (y : X) → Has new y ↔ (Has old y ⊎ (y ≡ x))
  Has-adds old new x adds y = (
    (λ has. elim (slice_get-added old new x adds has.0 y has.1) [ inl a ↦ inl (has.0, a) | inr e ↦ inr e ]),
    (λ h. elim h [ inl a ↦ (a.0, slice_get-adds old new x adds a.0 y a.1) | inr e ↦ subst (Has new) (sym e) (Has-adds_itself old new x adds) ]),
  )

  -- an element of a front stands in the list
  pub slice_get-taken : (k : ℕ) (xs : List X) (i : ℕ) (x : X) → slice_get (take k xs) i ≡ Some x → slice_get xs i ≡ Some x
  slice_get-taken zero xs i x e = cc
  slice_get-taken (suc k) [] i x e = cc
  slice_get-taken (suc k) (y ∷ xs) zero x e = e
  slice_get-taken (suc k) (y ∷ xs) (suc i) x e = slice_get-taken k xs i x e

  -- a list has one last element
  pub last_one : (xs ys : List X) (x y : X) → xs ++ x ∷ [] ≡ ys ++ y ∷ [] → (xs ≡ ys) × (x ≡ y)
  last_one [] [] x y e = (refl, cc)
  last_one [] (z ∷ []) x y e = cc
  last_one [] (z ∷ w ∷ ys) x y e = cc
  last_one (z ∷ []) [] x y e = cc
  last_one (z ∷ w ∷ xs) [] x y e = cc
  last_one (z ∷ xs) (w ∷ ys) x y e =
      let first : z ≡ w = cc in
      let rest : xs ++ x ∷ [] ≡ ys ++ y ∷ [] = cc in
      let more = last_one xs ys x y rest in
      (cc (first, more.0), more.1)

  -- a list behind lists by number
  pub row-last : (ls : List (List X)) (l : List X) (i : ℕ) → length ls ≡ i → row (ls ++ l ∷ []) i ≡ l
  row-last [] l zero e = refl
  row-last [] l (suc i) e = absurd (omega (arith, e))
  row-last (x ∷ ls) l zero e = absurd (omega (arith, e))
  row-last (x ∷ ls) l (suc i) e = row-last ls l i (omega (arith, e))

  pub row-left : (ls : List (List X)) (l : List X) (i : ℕ) → i < length ls → row (ls ++ l ∷ []) i ≡ row ls i
  row-left [] l i h = absurd (omega arith)
  row-left (x ∷ ls) l zero h = refl
  row-left (x ∷ ls) l (suc i) h = row-left ls l i (omega arith)

module _ {X : Type 0} (R : X → X → Type 0) where
  -- two elements of a list in order
  pub AllPairs-at : (xs : List X) (i j : ℕ) (x y : X) → AllPairs R xs → i < j → slice_get xs i ≡ Some x → slice_get xs j ≡ Some y → R x y
  AllPairs-at xs i j x y ordered less first second =
      let lower = get_or_from_slice_get xs i x x first in
      let upper = get_or_from_slice_get xs j y x second in
      subst (λ (u : X). R u y) lower (subst (λ (v : X). R (get_or xs i x) v) upper (ordered i j x less (slice_get-below xs j y second)))

-- what a mapped list has comes from an element
pub slice_get-mapped : {X Y : Type 0} (f : X → Y) (xs : List X) (i : ℕ) (y : Y) → slice_get (map f xs) i ≡ Some y → (x : X) × (slice_get xs i ≡ Some x) × (f x ≡ y)
slice_get-mapped f [] i y h = cc
slice_get-mapped f (x ∷ xs) zero y h = (x, refl, cc)
slice_get-mapped f (x ∷ xs) (suc i) y h = slice_get-mapped f xs i y h

-- of increasing numbers each stands at one place
pub increasing_one : (rows : List ℕ) (i j row : ℕ) → AreIncreasing rows → slice_get rows i ≡ Some row → slice_get rows j ≡ Some row → i ≡ j
increasing_one rows i j row increasing a b = elim (cases_order i j) [
  | inl e ↦ e
  | inr o ↦ elim o [ inl l ↦ absurd (apart i j l a b) | inr g ↦ absurd (apart j i g b a) ]
] where
  apart : (i j : ℕ) → i < j → slice_get rows i ≡ Some row → slice_get rows j ≡ Some row → ⊥
  apart i j l a b = let less = increasing i j row l (slice_get-below rows j row b) in
      omega (arith, less, get_or_from_slice_get rows i row row a, get_or_from_slice_get rows j row row b)

-- the first number with a fact, or the end, is one
pub first_one : (end : ℕ) (P : ℕ → Type 0) (a b : ℕ) → IsFirstOr end P a → IsFirstOr end P b → a ≡ b
first_one end P a b p q = elim p [
  | inl least ↦ elim q [
    | inl other ↦ elim (cases_order a b) [
      | inl same ↦ same
      | inr apart ↦ elim apart [ inl below ↦ absurd (other.first a below least.holds) | inr above ↦ absurd (least.first b above other.holds) ]
    ]
    | inr none ↦ absurd (none.1 a least.holds)
  ]
  | inr none ↦ elim q [ inl other ↦ absurd (none.1 b other.holds) | inr also ↦ none.0 ∙ sym also.0 ]
]

-- what a test of an option says
pub some_from : {X : Type 0} (o : Option X) → is_some o ≡ true → (x : X) × (o ≡ Some x)
some_from None e = absurd (true≢false (sym e))
some_from (Some x) e = (x, refl)

pub none_from : {X : Type 0} (o : Option X) → is_some o ≡ false → o ≡ None
none_from None e = refl
none_from (Some x) e = absurd (true≢false e)
