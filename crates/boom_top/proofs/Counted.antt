-- How many statements methods have.
use Rattle.std.proofs.Common.{◌≡◌, ◌+◌, ℕ, zero, suc, List, [], ◌∷◌, Some, slice_get, subst, arith, take}
use Rattle.std.specs.List.{sum_by}
use Rattle.std.proofs.Math.Numerals.{suc-eq-add-one}
use Rattle.std.proofs.lemmas.List.Sums.{sum_by-cons}

-- one element more adds what it counts
sum_by-next : {X : Type 0} (f : X → ℕ) (xs : List X) (i : ℕ) (x : X) → slice_get xs i ≡ Some x → sum_by f (take (suc i) xs) ≡ sum_by f (take i xs) + f x
sum_by-next f [] i x e = absurd (let none = e in cc)
sum_by-next {X} f (y ∷ ys) zero x e =
    let cons = sum_by-cons f y [] in
    let here : sum_by f (y ∷ []) ≡ 0 + f y = omega (arith, cons) in
    let same : y ≡ x = cc in
    subst (λ (z : X). sum_by f (y ∷ []) ≡ 0 + f z) same here
sum_by-next f (y ∷ ys) (suc i) x e =
    let next = sum_by-next f ys i x e in
    let more = sum_by-cons f y (take (suc i) ys) in
    let less = sum_by-cons f y (take i ys) in
    omega (arith, next, more, less)

pub sum_by-more : {X : Type 0} (f : X → ℕ) (xs : List X) (i : ℕ) (x : X) → slice_get xs i ≡ Some x → sum_by f (take (i + 1) xs) ≡ sum_by f (take i xs) + f x
sum_by-more f xs i x e = subst (λ n. sum_by f (take n xs) ≡ sum_by f (take i xs) + f x) (suc-eq-add-one i) (sum_by-next f xs i x e)
