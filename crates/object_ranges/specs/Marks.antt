-- Numbers at some of the places of a list: classes that may have objects, where they stand.
use Rattle.std.specs.Prelude.{◌≡◌, ℕ, ◌<◌, ◌≤◌, Option, Some, None, List, min, slice_get}
use Rattle.lists.specs.Lists.{IsLeast}

-- the number stands at the place
abbrev pub Stands : List (Option ℕ) → ℕ → ℕ → Type 0
Stands marks place n = slice_get marks place ≡ Some (Some n)

-- the number stands at one of the places from the first up to the last, without the last
abbrev pub StandsIn : List (Option ℕ) → ℕ → ℕ → ℕ → Type 0
StandsIn marks from to n = (place : ℕ) × (from ≤ place) × (place < to) × Stands marks place n

-- the least number with the fact, if there is one
abbrev pub IsLeastOf : (ℕ → Type 0) → Option ℕ → Type 0
IsLeastOf P (Some n) = IsLeast P n
IsLeastOf P None = (n : ℕ) → P n → ⊥

-- the lesser of two numbers, of which there may be one or none
abbrev pub earlier : Option ℕ → Option ℕ → Option ℕ
earlier None other = other
earlier (Some a) None = Some a
earlier (Some a) (Some b) = Some (min a b)
