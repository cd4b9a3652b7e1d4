-- Lists cut at a mark, and lists without it.
use Rattle.std.proofs.Common.{◌≡◌, ℕ, suc, ◌==◌, false, List, [], ◌∷◌, ◌++◌, Some, All, refl, ap}
use Rattle.std.proofs.lemmas.List.Elements.{All-cons, All-nil}
use borrow.Author.Tests.{ne_eqb}
use Rattle.lists.specs.Lists.{Has}

pub has_more : (x c : ℕ) (xs : List ℕ) → Has xs c → Has (x ∷ xs) c
has_more x c xs h = (suc h.0, h.1)

-- a mark between two lists stands in both together
pub has_between : (xs ys : List ℕ) (c : ℕ) → Has (xs ++ c ∷ ys) c
has_between [] ys c = (0, refl)
has_between (x ∷ xs) ys c = let rest = has_between xs ys c in (suc rest.0, rest.1)

module _ (c : ℕ) where
  -- a list is cut in one way at the first place of a mark
  pub cut_first : (xs ys zs ws : List ℕ) → (Has xs c → ⊥) → (Has zs c → ⊥) → xs ++ c ∷ ys ≡ zs ++ c ∷ ws → (xs ≡ zs) × (ys ≡ ws)
  cut_first [] ys [] ws p q e = (refl, cc)
  cut_first [] ys (z ∷ zs) ws p q e = let same : z ≡ c = cc in absurd (q (0, ap Some same))
  cut_first (x ∷ xs) ys [] ws p q e = let same : x ≡ c = cc in absurd (p (0, ap Some same))
  cut_first (x ∷ xs) ys (z ∷ zs) ws p q e =
      let first : x ≡ z = cc in
      let rest : xs ++ c ∷ ys ≡ zs ++ c ∷ ws = cc in
      let more = cut_first xs ys zs ws (λ h. p (has_more x c xs h)) (λ h. q (has_more z c zs h)) rest in
      (cc (first, more.0), more.1)

  -- no place of a list without the mark passes the test for it
  pub all_other : (xs : List ℕ) → (Has xs c → ⊥) → All (λ x. (x == c) ≡ false) xs
  all_other [] none = All-nil (λ x. (x == c) ≡ false)
  all_other (x ∷ xs) none =
      All-cons (λ y. (y == c) ≡ false) x xs (ne_eqb x c (λ e. none (0, ap Some e))) (all_other xs (λ h. none (has_more x c xs h)))
