-- Lists side by side, made element by element.
use Rattle.std.proofs.Common.{◌≡◌, ℕ, ◌+◌, ◌<◌, List, [], ◌∷◌, ◌++◌, length, get_or, take, sym, subst, arith}
use Rattle.std.proofs.lemmas.List.{take_all, take_more}
use Rattle.lists.proofs.SideBySide.{Each-push}
use Rattle.lists.specs.Lists.{Each}

module _ {X Y : Type 0} (R : X → Y → Type 0) where
  -- one more
  pub each_more : (xs : List X) (i : ℕ) (d : X) (ys : List Y) (y : Y) → i < length xs → Each R (take i xs) ys → R (get_or xs i d) y
      → Each R (take (i + 1) xs) (ys ++ y ∷ [])
  each_more xs i d ys y below was now =
      subst (λ (zs : List X). Each R zs (ys ++ y ∷ [])) (sym (take_more xs i d below)) (Each-push R (take i xs) ys (get_or xs i d) y was now)

  -- all
  pub each_all : (xs : List X) (n : ℕ) (ys : List Y) → n ≡ length xs → Each R (take n xs) ys → Each R xs ys
  each_all xs n ys e h = subst (λ (zs : List X). Each R zs ys) (take_all n xs (omega arith)) h
