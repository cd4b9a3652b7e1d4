-- The numbers of the methods that are linked.
use Rattle.std.specs.Prelude.{◌≡◌, ℕ, ◌↔◌, List, Option, Some, slice_get}
use Rattle.lists.specs.Lists.{AreIncreasing}

-- for each row its place among these rows, if it is one of them
pub record IsNumbering (rows : List ℕ) (numbers : List (Option ℕ)) : Type 0 where
  pub increasing : AreIncreasing rows
  pub each : (row n : ℕ) → (slice_get numbers row ≡ Some (Some n)) ↔ (slice_get rows n ≡ Some row)
