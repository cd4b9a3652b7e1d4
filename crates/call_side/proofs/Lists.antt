-- Elements of the fronts of lists.
use Rattle.std.proofs.Common.{◌≡◌, ℕ, ◌+◌, ◌<◌, ◌↔◌, ◌⊎◌, List, length, get_or, take, sym, subst}
use Rattle.std.proofs.lemmas.List.{take_more}
use Rattle.std.proofs.lemmas.Option.{slice_get-get_or}
use Rattle.lists.specs.Lists.{Has}
use Rattle.lists.proofs.Places.{Has-push}

module _ {X : Type 0} where
  -- what indexing reads stands there
  pub has-read : (xs : List X) (i : ℕ) (d : X) → i < length xs → Has xs (get_or xs i d)
  has-read xs i d below = (i, slice_get-get_or xs i d below)

  -- the elements of a front that has one more
  pub Has-take_more : (xs : List X) (i : ℕ) (d y : X) → i < length xs → Has (take (i + 1) xs) y ↔ (Has (take i xs) y ⊎ (y ≡ get_or xs i d))
  Has-take_more xs i d y below =
      subst (λ (ys : List X). Has ys y ↔ (Has (take i xs) y ⊎ (y ≡ get_or xs i d))) (sym (take_more xs i d below)) (Has-push (take i xs) (get_or xs i d) y)
