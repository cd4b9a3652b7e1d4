-- Numbers with marks. It is this project's own.
use Rattle.std.specs.Prelude.{◌↔◌, ℕ, Bool, false, List, IsTrue, Contains, nat_eq, slice_index_or}
use Rattle.std.specs.List.{IsDistinct}

-- no number stands twice, and the mark of a number is set where it stands in the list, and nowhere else
pub record AreMarked (marks : List Bool) (numbers : List ℕ) : Type 0 where
  pub distinct : IsDistinct nat_eq numbers
  pub marked : (n : ℕ) → IsTrue (slice_index_or marks n false) ↔ Contains numbers n
