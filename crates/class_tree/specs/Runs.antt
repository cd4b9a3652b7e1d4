-- Runs of places: from the first of a run on each class is the parent of the next.
use Rattle.std.specs.Prelude.{◌≡◌, ℕ, ◌+◌, ◌<◌, ◌≤◌, Option, Some, None, List, length, slice_get, slice_index}
use Rattle.class_tree.specs.declared.runs.Runs.{Runs}
use Rattle.class_rules.specs.declared.rows.ClassRow.{ClassRow}
use Rattle.class_rules.specs.Rows.{HasParent}

-- from one place up to another each class is the parent of the one at the next place
abbrev pub IsRun : List ClassRow → List ℕ → ℕ → ℕ → Type 0
IsRun classes tenants from to = (p a b : ℕ) → from ≤ p → p < to → slice_get tenants p ≡ Some b → slice_get tenants (p + 1) ≡ Some a → HasParent classes a b

-- the class at each place, and for each place one that a run begins with which leads up to there
pub record AreRuns (classes : List ClassRow) (places : List ℕ) (runs : Runs) : Type 0 where
  pub len : length runs.starts.items ≡ length runs.tenants.items
  pub reached : (c : ℕ) → c < length classes → slice_index places c < length runs.tenants.items
  pub placed : (p c : ℕ) → slice_get runs.tenants.items p ≡ Some c → (c < length classes) × (slice_index places c ≡ p)
  pub begun : (p : ℕ) → slice_index runs.starts.items p ≤ p
  pub each : (p : ℕ) → p < length runs.tenants.items → IsRun classes runs.tenants.items (slice_index runs.starts.items p) p
  pub falls : (a b : ℕ) → HasParent classes a b → slice_index places b < slice_index places a

-- the last of the places from the first up to the other, it included, of which something holds
abbrev pub IsLastHeld : (ℕ → Type 0) → ℕ → ℕ → Option ℕ → Type 0
IsLastHeld At from to (Some p) = (from ≤ p) × (p ≤ to) × At p × ((q : ℕ) → p < q → q ≤ to → At q → ⊥)
IsLastHeld At from to None = (q : ℕ) → from ≤ q → q ≤ to → At q → ⊥
