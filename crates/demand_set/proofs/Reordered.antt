-- A set whose keys were put into another order.
use Rattle.std.proofs.Common.{◌≡◌, ◌≢◌, ◌∙◌, ℕ, ◌<◌, ◌⊎◌, ◌↔◌, Bool, true, false, List, refl, sym, ap, inl, inr, arith, AllPairs}
use Rattle.std.proofs.lemmas.Map.Made.{AllPairs-from_IsDistinct}
use Rattle.std.proofs.lemmas.Option.{get_or_from_slice_get}
use Rattle.std.proofs.lemmas.Fn.{always_returns_same}
use Rattle.std.proofs.lemmas.List.Sorted.{ranks_by}
use Rattle.std.specs.Bool.{Decides}
use Rattle.std.specs.Cmp.{IsStrictWeakOrder, IsTotalOrder}
use Rattle.std.specs.Fn.{Called, ComparesAs}
use Rattle.std.specs.List.Sorted.{IsSortedBy}
use Rattle.std.specs.Ordering.{is_lt}
use Rattle.std.specs.declared.cmp.Ordering.{Ordering}
use denote.Ref.{Bor}
use denote.Param.Members.{Mut}
use Rattle.std.specs.List.{IsDistinct, list_any}
use Rattle.lists.specs.Lists.{Has, IsApart}
use Rattle.lists.proofs.Places.{slice_get-below}
use Rattle.lists.proofs.Keys.{has-list_any, not-list_any}

-- a list whose elements differ at each two places
pub IsApart-from_pairs : {X : Type 0} (xs : List X) → AllPairs (λ x y. x ≢ y) xs → IsApart xs
IsApart-from_pairs xs differ i j x p q = elim (split i j) [
  | inl lt ↦ absurd (differ i j x lt (slice_get-below xs j x q) (get_or_from_slice_get xs i x x p ∙ sym (get_or_from_slice_get xs j x x q)))
  | inr more ↦ elim more [
    | inl same ↦ same
    | inr gt ↦ absurd (differ j i x gt (slice_get-below xs i x p) (get_or_from_slice_get xs j x x q ∙ sym (get_or_from_slice_get xs i x x p)))
  ]
]
  where
    split : (i j : ℕ) → (i < j) ⊎ ((i ≡ j) ⊎ (j < i))
    split i j = grind arith

module _ {X : Type 0} (eq : X → X → Bool) (same : (x y : X) → eq x y ≡ true → x ≡ y) (self : (x : X) → eq x x ≡ true) where
  -- the test decides equality
  decides : (x y : X) → Decides (eq x y) (x ≡ y)
  decides x y = (same x y, λ e. rw e (self y))

  -- keys that the test tells apart differ
  pub differ-from_distinct : (xs : List X) → IsDistinct eq xs → AllPairs (λ x y. x ≢ y) xs
  differ-from_distinct xs distinct = AllPairs-from_IsDistinct decides xs distinct

  -- what a list has, the test finds
  list_any-has : (xs : List X) (x : X) → Has xs x → list_any (eq x) xs ≡ true
  list_any-has xs x has = by (list_any (eq x) xs) refl
    where
      by : (b : Bool) → list_any (eq x) xs ≡ b → list_any (eq x) xs ≡ true
      by true e = e
      by false e = absurd (not-list_any eq same self xs x has.0 e has.1)

  -- lists in which the test finds the same have the same
  pub Has-same : (xs ys : List X) → ((x : X) → list_any (eq x) ys ≡ list_any (eq x) xs) → (x : X) → Has ys x ↔ Has xs x
  Has-same xs ys found x = (
    λ h. has-list_any eq same self xs x (sym (found x) ∙ list_any-has ys x h),
    λ h. has-list_any eq same self ys x (found x ∙ list_any-has xs x h),
  )

-- what a sort by a closure gives, where each call answers by an order
pub sorted_by : {X F : Type 0} {g : Mut F (Bor X × (Bor X × Unit {0})) Ordering} {f : F} (xs : List X) (cmp : X → X → Ordering) → IsTotalOrder cmp
    → ((lt : X → X → Bool) → IsStrictWeakOrder lt → ComparesAs g lt f → IsSortedBy lt xs)
    → ((a : Bor X × (Bor X × Unit {0})) (r : Ordering) (f' : F) → Called g f a r f' → (r ≡ cmp a.0.now a.1.0.now) × (f' ≡ f)) → IsSortedBy (λ x y. is_lt (cmp x y)) xs
sorted_by {X} {g = g} {f = f} xs cmp total up h = up (λ x y. is_lt (cmp x y)) (ranks_by total (λ (x : X). x))
    (always_returns_same g (λ a r. is_lt r ≡ is_lt (cmp a.0.now a.1.0.now)) f (λ a r f' k. (ap is_lt (h a r f' k).0, (h a r f' k).1)))
