-- The places between which objects select the same.
use Rattle.std.specs.Prelude.{◌≡◌, ◌≢◌, ℕ, ◌+◌, ◌<◌, ◌≤◌, Option, Some, List, All, Contains, length, slice_get, slice_index_or}
use Rattle.object_ranges.specs.declared.parts.Part.{Part}
use Rattle.object_ranges.specs.declared.selection.Selection.{Selection}
use Rattle.object_ranges.specs.Marks.{Stands}

-- the place is one of the part's
abbrev pub IsIn : Part → ℕ → Type 0
IsIn part place = (part.start ≤ place) × (place < part.end)

-- where classes stand in the part, its selection is what is selected
abbrev pub SelectAlike : List (Option ℕ) → (ℕ → Selection) → Part → Type 0
SelectAlike marks select part = (place class : ℕ) → IsIn part place → Stands marks place class → select place ≡ part.selection

-- the parts stand in order, each behind the end of those before it
pub record AreInOrder (parts : List Part) : Type 0 where
  pub filled : All (λ part. part.start ≤ part.end) parts
  pub apart : (i j : ℕ) (d : Part) → i < j → j < length parts → (slice_index_or parts i d).end ≤ (slice_index_or parts j d).start

-- the place is in one of the parts
abbrev pub IsInOne : List Part → ℕ → Type 0
IsInOne parts place = (part : Part) × Contains parts part × IsIn part place

-- a class stands in the part
abbrev pub HasClass : List (Option ℕ) → Part → Type 0
HasClass marks part = (place class : ℕ) × IsIn part place × Stands marks place class

-- neighbours have different selections
abbrev pub NeighboursDiffer : List Part → Type 0
NeighboursDiffer parts = (i : ℕ) (part next : Part) → slice_get parts i ≡ Some part → slice_get parts (i + 1) ≡ Some next → part.selection ≢ next.selection

-- each class stands in a part with what is selected there; each part has a class, and neighbours have different selections
pub record TellParts (marks : List (Option ℕ)) (select : ℕ → Selection) (parts : List Part) : Type 0 where
  pub right : (part : Part) → Contains parts part → SelectAlike marks select part
  pub all : (place class : ℕ) → Stands marks place class → IsInOne parts place
  pub has_class : (part : Part) → Contains parts part → HasClass marks part
  pub differ : NeighboursDiffer parts

-- the same of the classes before a place, where no part goes on past it
pub record ArePartsTo (marks : List (Option ℕ)) (select : ℕ → Selection) (end : ℕ) (parts : List Part) : Type 0 where
  pub in_order : AreInOrder parts
  pub up_to : All (λ part. part.end ≤ end) parts
  pub right : (part : Part) → Contains parts part → SelectAlike marks select part
  pub all : (place class : ℕ) → place < end → Stands marks place class → IsInOne parts place
  pub has_class : (part : Part) → Contains parts part → HasClass marks part
  pub differ : NeighboursDiffer parts
