-- A list behind another one.
use Rattle.std.proofs.Common.{◌≡◌, ℕ, zero, suc, ◌+◌, ◌⊎◌, List, [], ◌∷◌, ◌++◌, length, slice_get, refl, sym, ap, ◌∙◌, inl, inr, ◌<◌, take, get_or}
use Rattle.std.proofs.lemmas.List.{take_more}
use Rattle.lists.specs.Lists.{Has, IsApart, AreAll}
use Rattle.lists.proofs.Joined.{Has-either, Has-left, Has-right, slice_get-appended, slice_get-taken}

module _ {X : Type 0} where
  -- one element
  pub Has-one : (x y : X) → Has (x ∷ []) y → y ≡ x
  Has-one x y (zero, h) = cc
  Has-one x y (suc i, h) = cc

  -- a list of one element has no element twice
  pub IsApart-one : (x : X) → IsApart (x ∷ [])
  IsApart-one x zero zero y p q = refl
  IsApart-one x zero (suc j) y p q = cc
  IsApart-one x (suc i) j y p q = cc

  -- two lists with no element in common
  pub IsApart-append : (xs ys : List X) → IsApart xs → IsApart ys → ((x : X) → Has xs x → Has ys x → ⊥) → IsApart (xs ++ ys)
  IsApart-append xs ys first second none i j x p q = elim (slice_get-appended xs ys i x p) [
    | inl a ↦ elim (slice_get-appended xs ys j x q) [ inl b ↦ first i j x a b | inr b ↦ absurd (none x (i, a) (b.0, b.2)) ]
    | inr a ↦ elim (slice_get-appended xs ys j x q) [
      | inl b ↦ absurd (none x (j, b) (a.0, a.2))
      | inr b ↦ a.1 ∙ ap (λ k. length xs + k) (second a.0 b.0 x a.2 b.2) ∙ sym b.1
    ]
  ]

  -- the same by an equal fact
  pub AreAll-same : {P Q : X → Type 0} (xs : List X) → AreAll P xs → ((x : X) → P x → Q x) → ((x : X) → Q x → P x) → AreAll Q xs
  AreAll-same xs are to from = record { each = λ x h. to x (are.each x h); all = λ x q. are.all x (from x q); apart = are.apart }

  -- those of either fact, which have no element in common
  pub AreAll-append : {P Q : X → Type 0} (xs ys : List X) → AreAll P xs → AreAll Q ys → ((x : X) → P x → Q x → ⊥) → AreAll (λ x. P x ⊎ Q x) (xs ++ ys)
  AreAll-append xs ys first second none = record {
    each = λ x h. elim (Has-either xs ys x h) [ inl a ↦ inl (first.each x a) | inr b ↦ inr (second.each x b) ];
    all = λ x h. elim h [ inl a ↦ Has-left xs ys x (first.all x a) | inr b ↦ Has-right xs ys x (second.all x b) ];
    apart = IsApart-append xs ys first.apart second.apart (λ x a b. none x (first.each x a) (second.each x b));
  }

  -- in one more element
  pub Has-take_more : (xs : List X) (i : ℕ) (d x : X) → i < length xs → Has (take (i + 1) xs) x → Has (take i xs) x ⊎ (x ≡ get_or xs i d)
  Has-take_more xs i d x h has = elim (Has-either (take i xs) (get_or xs i d ∷ []) x (rw (take_more xs i d h) at has)) [ inl a ↦ inl a | inr b ↦ inr (Has-one (get_or xs i d) x b) ]

  pub Has-take_kept : (xs : List X) (i : ℕ) (d x : X) → i < length xs → Has (take i xs) x → Has (take (i + 1) xs) x
  Has-take_kept xs i d x h has = rw (take_more xs i d h) (Has-left (take i xs) (get_or xs i d ∷ []) x has)

  pub Has-take_last : (xs : List X) (i : ℕ) (d : X) → i < length xs → Has (take (i + 1) xs) (get_or xs i d)
  Has-take_last xs i d h = rw (take_more xs i d h) (Has-right (take i xs) (get_or xs i d ∷ []) (get_or xs i d) (0, refl))

  pub Has-take : (k : ℕ) (xs : List X) (x : X) → Has (take k xs) x → Has xs x
  Has-take k xs x h = (h.0, slice_get-taken k xs h.0 x h.1)
