-- One more dimension is one more pair of brackets.
use Rattle.std.proofs.Common.{◌≡◌, ℕ, zero, suc, ◌+◌, ◌++◌, codes, refl, ap, add-one}
use Rattle.link_rules.specs.Names.{brackets}

-- a pair of brackets more at the end
pub brackets_more : (n : ℕ) → brackets (n + 1) ≡ brackets n ++ codes "[]"
brackets_more n = rw add-one (by n)
  where
    by : (n : ℕ) → brackets (suc n) ≡ brackets n ++ codes "[]"
    by zero = refl
    by (suc n) = ap (λ l. codes "[]" ++ l) (by n)
