-- What is kept so far.
use Rattle.std.specs.Prelude.{◌≡◌, ℕ, ◌<◌, ◌↔◌, ◌⊎◌, List, Option, Some, slice_get}
use Rattle.lists.specs.Lists.{Has}
use Rattle.link_indexes.specs.declared.method.Place.{Place}
use Rattle.link_rules.specs.Linked.{LinkedProgram}
use Rattle.lists.specs.Numbers.{Numbers}
use Rattle.narrow_rules.specs.declared.kept.Kept.{Kept}
use Rattle.refine_rules.specs.Refined.{IsToKeep}
use Rattle.refined_query.specs.Selecting.{IsAmong}

-- the call stands in an earlier method, or in this one before an index
abbrev pub StandsBefore : ℕ → ℕ → Place → Type 0
StandsBefore number index place = (place.method < number) ⊎ ((place.method ≡ number) × (place.index < index))

-- what is kept is what those calls keep
abbrev pub AreKeptBefore : LinkedProgram → ℕ → ℕ → ℕ → List Kept → Type 0
AreKeptBefore p budget number index kept =
    (k : Kept) → Has kept k ↔ (StandsBefore number index k.place × IsToKeep p budget k.place.method k.place.index k.target)

-- one of so many targets of the call at the place, from the first on, that is among those that were found
pub record IsKeptAmong (place : Place) (targets : List ℕ) (count : ℕ) (found : Option (Numbers ℕ)) (k : Kept) : Type 0 where
  pub at : ℕ
  pub within : at < count
  pub there : slice_get targets at ≡ Some k.target
  pub stands : k.place ≡ place
  pub among : IsAmong found k.target

-- those are kept besides what was kept
abbrev pub AreAdded : (Kept → Type 0) → List Kept → List Kept → Type 0
AreAdded P old new = (k : Kept) → Has new k ↔ (Has old k ⊎ P k)
