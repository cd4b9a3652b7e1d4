-- What stands among lines.
use Rattle.std.proofs.Common.{◌≡◌, ℕ, zero, suc, ◌++◌, List, [], ◌∷◌, Some, slice_get}
use Rattle.lists.specs.Lists.{Has}

-- what stands among the middle lines
pub has_middle : {X : Type 0} (first : X) (xs ys : List X) (x : X) → Has xs x → Has (first ∷ (xs ++ ys)) x
has_middle {X} first xs ys x h = (suc h.0, left xs h.0 h.1)
  where
    left : (xs : List X) (i : ℕ) → slice_get xs i ≡ Some x → slice_get (xs ++ ys) i ≡ Some x
    left [] i e = cc
    left (z ∷ zs) zero e = e
    left (z ∷ zs) (suc i) e = left zs i e

-- an element of a list stands behind two others
pub has_behind : {X : Type 0} (first second : X) (xs ys : List X) (x : X) → Has xs x → Has (first ∷ second ∷ (xs ++ ys)) x
has_behind first second xs ys x h = let behind = has_middle second xs ys x h in (suc behind.0, behind.1)
