-- That a least refused place is the only one.
use Rattle.std.proofs.Common.{◌≡◌, ℕ, zero, suc, ◌+◌, ◌<◌, List, [], ◌∷◌, ◌++◌, take, refl, ap, arith, add-one, append_assoc}
use Rattle.jim_signs.specs.declared.seen.Sign.{Sign}
use Rattle.jim_grammar.specs.Refusals.{Least}

-- a begin is a shorter begin and more
begins : (xs : List Sign) (a b : ℕ) → a < b → (mid : List Sign) × (take b xs ≡ take (a + 1) xs ++ mid)
begins xs a b h = rw add-one (by xs a b h)
  where
    by : (xs : List Sign) (a b : ℕ) → a < b → (mid : List Sign) × (take b xs ≡ take (suc a) xs ++ mid)
    by xs a zero h = absurd (omega arith)
    by [] a (suc b) h = ([], refl)
    by (x ∷ xs) zero (suc b) h = (take b xs, refl)
    by (x ∷ xs) (suc a) (suc b) h = let p = by xs a b (omega arith) in (p.0, ap (λ z. x ∷ z) p.1)

-- what is viable isn't refused before
not_below : (signs : List Sign) (a b : ℕ) → Least signs a → Least signs b → a < b → ⊥
not_below signs a b p q h =
    let m = begins signs a b h in
    let d = q.viable.1 in
    p.refused (omega (arith, h, q.within)) (m.0 ++ q.viable.0) (rw (← append_assoc, ← m.1) d)

pub least_is_one : (signs : List Sign) (a b : ℕ) → Least signs a → Least signs b → a ≡ b
least_is_one signs a b p q =
    let not_before : a < b → ⊥ = not_below signs a b p q in
    let not_behind : b < a → ⊥ = not_below signs b a q p in
    omega arith
