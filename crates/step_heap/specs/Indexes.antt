-- The indexes of an object's writes.
use Rattle.std.specs.Prelude.{◌≡◌, ◌≢◌, ◌≤◌, ◌==◌, ◌++◌, ℕ, List, [], ◌∷◌, Option, Some, None, Box, filter, length, map, nat_eq}
use Rattle.std.specs.List.{last_or}
use Rattle.indexmap.specs.IndexMap.{IndexMap, Updates, IsUnchanged, get}
use Rattle.link_sites.specs.declared.site.Site.{Site}
use Rattle.step_rules.specs.declared.parts.Value.{Value}
use Rattle.step_rules.specs.States.{HeapObject, Write}
use Rattle.step_heap.specs.declared.writes.Written.{Written}

abbrev pub write_of : Written → Write
write_of w = record { field = w.field; value = w.value }

-- what was written into an object, which has no list of writes before the first
abbrev pub all_of : {A : Type 0} → Option (Box (List Written) A) → List Written
all_of (Some writes) = writes.value
all_of None = []

-- the object of this site and this class with these writes
abbrev pub object_of : Site → ℕ → List Written → HeapObject
object_of site class writes = record { site = site; class = class; writes = map write_of writes }

-- what was written into a field, the oldest first
abbrev pub values_in : List Written → ℕ → List Value
values_in writes field = map (λ w. w.value) (filter (λ w. w.field == field) (map write_of writes))

-- for each field the value that was written last, and the elements in order
pub record IsIndexed {S : Type 0} (writes : List Written) (latest : IndexMap ℕ Value S) (cells : List Value) : Type 0 where
  pub few : length writes ≤ 4294967290
  pub are_latest : (field : ℕ) → field ≢ 0 → get nat_eq latest field ≡ last_or None (values_in writes field)
  pub are_cells : cells ≡ values_in writes 0

-- the indexes after one more write
pub record Indexes {S : Type 0} (old : IndexMap ℕ Value S) (old_cells : List Value) (w : Written) (new : IndexMap ℕ Value S) (new_cells : List Value) : Type 0 where
  pub latest : w.field ≢ 0 → Updates nat_eq old new w.field (Some w.value)
  pub latest_kept : w.field ≡ 0 → IsUnchanged old new
  pub cells : w.field ≡ 0 → new_cells ≡ old_cells ++ w.value ∷ []
  pub cells_kept : w.field ≢ 0 → new_cells ≡ old_cells

-- the indexes are as before
pub record AreKept {S : Type 0} (old : IndexMap ℕ Value S) (old_cells : List Value) (new : IndexMap ℕ Value S) (new_cells : List Value) : Type 0 where
  pub latest : IsUnchanged old new
  pub cells : new_cells ≡ old_cells
