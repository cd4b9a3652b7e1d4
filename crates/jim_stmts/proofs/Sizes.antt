-- Lengths in brackets, of which the first ones are given.
use Rattle.std.proofs.Common.{◌≡◌, ℕ, zero, suc, ◌+◌, ◌<◌, IsTrue, Bool, false, is_some, List, [], ◌∷◌, length, Some, None, refl, arith}
use Rattle.jim_grammar.specs.Expressions.{Tree}
use Rattle.jim_grammar.specs.Grammar.{own}
use Rattle.jim_stmts.specs.Meanings.{sized_of}

-- how many more lengths count as sized where so many were not
abbrev pub sized_behind : ℕ → List (Tree own) → ℕ
sized_behind zero xs = sized_of xs
sized_behind (suc n) xs = 0

pub sized_behind-none : (n : ℕ) → sized_behind n [] ≡ 0
sized_behind-none zero = refl
sized_behind-none (suc n) = refl

-- what was counted, and what is left
pub record Counted (all : List (Tree own)) (sized others : ℕ) (left : List (Tree own)) : Type 0 where
  pub total : sized + others + length left ≡ length all
  pub sizes : sized_of all ≡ sized + sized_behind others left

-- one more was counted
pub counted_step : (all : List (Tree own)) (sized others sized' others' : ℕ) (x : Tree own) (xs : List (Tree own)) (given : Bool) → Counted all sized others (x ∷ xs) → given ≡ is_some x.1.0
    → (IsTrue given → others ≡ 0 → (sized' ≡ sized + 1) × (others' ≡ 0))
    → (given ≡ false → (sized' ≡ sized) × (others' ≡ others + 1))
    → (0 < others → (sized' ≡ sized) × (others' ≡ others + 1))
    → Counted all sized' others' xs
counted_step all sized zero sized' others' (m, (None, z)) xs given k g f l b =
    let e = l g in
    let n : others' ≡ 1 = omega (arith, e.1) in
    rw n record { total = omega (arith, k.total, e.0, n); sizes = omega (arith, k.sizes, e.0) }
counted_step all sized zero sized' others' (m, (Some i, z)) xs given k g f l b =
    let e = f g refl in
    let n : others' ≡ 0 = e.1 in
    rw n record { total = omega (arith, k.total, e.0); sizes = omega (arith, k.sizes, e.0) }
counted_step all sized (suc n) sized' others' x xs given k g f l b =
    let e = b (omega arith) in
    let q : others' ≡ suc (suc n) = omega (arith, e.1) in
    rw q record { total = omega (arith, k.total, e.0, q); sizes = omega (arith, k.sizes, e.0) }
