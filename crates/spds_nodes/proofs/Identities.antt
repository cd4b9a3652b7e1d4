-- The only value that a function gives of a list, one element after the other.
use Rattle.std.proofs.Common.{◌≡◌, ℕ, zero, suc, ◌+◌, ◌≤◌, List, [], ◌∷◌, ◌++◌, Option, Some, None, false, true, drop, filter_map, is_some, length, slice_get, take, refl, sym, ap, ◌∙◌}
use Rattle.std.specs.List.{cons_option}
use Rattle.std.proofs.lemmas.List.{take_all}
use Rattle.std.proofs.lemmas.List.Elements.{filter_map-append}
use Rattle.lists.proofs.Places.{take-next}
use Rattle.spds_rules.specs.Formals.{only}

module _ {X Y : Type 0} (f : X → Option Y) where
  -- what a list gives is what its front gives, and then the rest
  filter_map-split : (xs : List X) (n : ℕ) → filter_map f xs ≡ filter_map f (take n xs) ++ filter_map f (drop n xs)
  filter_map-split [] zero = refl
  filter_map-split [] (suc n) = refl
  filter_map-split (x ∷ xs) zero = refl
  filter_map-split (x ∷ xs) (suc n) = ap (cons_option (f x)) (filter_map-split xs n) ∙ by (f x)
    where
      by : (o : Option Y) → cons_option o (filter_map f (take n xs) ++ filter_map f (drop n xs)) ≡ cons_option o (filter_map f (take n xs)) ++ filter_map f (drop n xs)
      by None = refl
      by (Some y) = refl

  -- one element more
  filter_map-next : (xs : List X) (i : ℕ) (x : X) → slice_get xs i ≡ Some x → filter_map f (take (i + 1) xs) ≡ filter_map f (take i xs) ++ cons_option (f x) []
  filter_map-next xs i x there = ap (filter_map f) (take-next xs i x there) ∙ filter_map-append f (take i xs) (x ∷ [])

  -- which gives nothing
  pub filter_map-none : (xs : List X) (i : ℕ) (x : X) (found : Option Y) → slice_get xs i ≡ Some x → f x ≡ None
      → filter_map f (take i xs) ≡ cons_option found [] → filter_map f (take (i + 1) xs) ≡ cons_option found []
  filter_map-none xs i x None there none before =
      filter_map-next xs i x there ∙ ap (λ ys. ys ++ cons_option (f x) []) before ∙ ap (λ o. cons_option o []) none
  filter_map-none xs i x (Some y) there none before =
      filter_map-next xs i x there ∙ ap (λ ys. ys ++ cons_option (f x) []) before ∙ ap (λ o. y ∷ cons_option o []) none

  -- which gives the first value
  pub filter_map-first : (xs : List X) (i : ℕ) (x : X) (y : Y) (found : Option Y) → is_some found ≡ false → slice_get xs i ≡ Some x → f x ≡ Some y
      → filter_map f (take i xs) ≡ cons_option found [] → filter_map f (take (i + 1) xs) ≡ y ∷ []
  filter_map-first xs i x y None first there some before =
      filter_map-next xs i x there ∙ ap (λ ys. ys ++ cons_option (f x) []) before ∙ ap (λ o. cons_option o []) some
  filter_map-first xs i x y (Some z) first there some before = absurd (cc (first))

  -- where a second value comes, none is the only one
  pub only-second : (xs : List X) (i : ℕ) (x : X) (y : Y) (found : Option Y) → is_some found ≡ true → slice_get xs i ≡ Some x → f x ≡ Some y
      → filter_map f (take i xs) ≡ cons_option found [] → None ≡ only (filter_map f xs)
  only-second xs i x y None second there some before = absurd (cc (second))
  only-second xs i x y (Some z) second there some before =
      let two : filter_map f (take (i + 1) xs) ≡ z ∷ y ∷ [] =
      filter_map-next xs i x there ∙ ap (λ ys. ys ++ cons_option (f x) []) before ∙ ap (λ o. z ∷ cons_option o []) some in
      sym (ap only (filter_map-split xs (i + 1) ∙ ap (λ ys. ys ++ filter_map f (drop (i + 1) xs)) two))

  -- the whole list
  pub only-all : (xs : List X) (i : ℕ) (found : Option Y) → length xs ≤ i → filter_map f (take i xs) ≡ cons_option found [] → found ≡ only (filter_map f xs)
  only-all xs i found behind before = sym (ap only (ap (filter_map f) (sym (take_all i xs behind)) ∙ before) ∙ by found)
    where
      by : (o : Option Y) → only (cons_option o []) ≡ o
      by None = refl
      by (Some y) = refl
