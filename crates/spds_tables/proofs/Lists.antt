-- Elements of joined lists.
use Rattle.std.proofs.Common.{◌≡◌, ℕ, zero, suc, ◌+◌, List, [], ◌∷◌, ◌++◌, slice_get, Some, sym, subst}
use Rattle.std.specs.List.{flat_map}
use Rattle.lists.specs.Lists.{Has}
use Rattle.lists.proofs.Joined.{Has-left, Has-right}

-- an element of joined lists
pub Has-flat_map : {X Y : Type 0} (f : X → List Y) (xs : List X) (x : X) (y : Y) → Has xs x → Has (f x) y → Has (flat_map f xs) y
Has-flat_map f [] x y has here = cc has.1
Has-flat_map f (z ∷ xs) x y has here = by has.0 has.1 (λ there. Has-flat_map f xs x y there here)
  where
    by : (i : ℕ) → slice_get (z ∷ xs) i ≡ Some x → (Has xs x → Has (flat_map f xs) y) → Has (f z ++ flat_map f xs) y
    by zero h rest = let same : z ≡ x = cc in Has-left (f z) (flat_map f xs) y (subst (λ w. Has (f w) y) (sym same) here)
    by (suc i) h rest = Has-right (f z) (flat_map f xs) y (rest (i, h))
