-- Ascending numbers of lines, and the place of a number among them.
use Rattle.std.specs.Prelude.{◌≡◌, ℕ, suc, ◌+◌, ◌<◌, ◌^◌, AllPairs, List, [], ◌∷◌, Some, cond, leb, length, slice_get}
use Rattle.cert_rules.specs.declared.line.Line.{Line}
use Rattle.cert_make.specs.Needs.{renumbered}

-- the numbers ascend, and 32 bits tell how many there are
pub record AreNumbers (numbers : List ℕ) : Type 0 where
  pub ascending : AllPairs (λ a b. a < b) numbers
  pub few : length numbers < 2 ^ 32

-- how many of the numbers are at most this one
abbrev pub up_to : List ℕ → ℕ → ℕ
up_to [] number = 0
up_to (n ∷ numbers) number = cond (leb n number) 1 0 + up_to numbers number

-- for each of the numbers the line with it, which cites by its places among them
pub record AreAnew (numbers : List ℕ) (lines found : List Line) : Type 0 where
  pub as_many : length found ≡ length numbers
  pub each : (j i : ℕ) (l : Line) → slice_get numbers j ≡ Some (suc i) → slice_get lines i ≡ Some l → slice_get found j ≡ Some (renumbered (up_to numbers) l)
