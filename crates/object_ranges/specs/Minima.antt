-- A binary tree of minima over a list.
use Rattle.std.specs.Prelude.{◌≡◌, ℕ, ◌+◌, ◌<◌, ◌≤◌, Option, None, List, length, slice_index_or}
use Rattle.object_ranges.specs.Marks.{earlier}

-- a node from this one on, before the list begins, has the lesser of the numbers of the two nodes below it
abbrev pub AreLesser : ℕ → ℕ → List (Option ℕ) → Type 0
AreLesser from count nodes = (i : ℕ) → from ≤ i → i < count → slice_index_or nodes i None ≡ earlier (slice_index_or nodes (i + i) None) (slice_index_or nodes (i + i + 1) None)

-- the list begins at the node `count`, and there are as many nodes before it
pub record IsHeap (count : ℕ) (nodes : List (Option ℕ)) : Type 0 where
  pub len : length nodes ≡ count + count
  pub lesser : AreLesser 1 count nodes
