-- The interfaces with a method of a key, at their places.
use Rattle.std.specs.Prelude.{◌≡◌, ℕ, ◌<◌, ◌↔◌, List, Contains, length, slice_index}
use Rattle.std.specs.List.Sorted.{IsNonDecreasingBy}
use Rattle.class_rules.specs.Rows.{Rows}
use Rattle.class_tree.specs.Indexed.{HoldsMethod}
use Rattle.default_turns.specs.declared.holders.Holder.{Holder}

-- they are classes at their places, and stand in the order of these
pub record ArePlaced (rows : Rows) (places : List ℕ) (holders : List Holder) : Type 0 where
  pub known : (h : Holder) → Contains holders h → h.interface < length rows.classes
  pub placed : (h : Holder) → Contains holders h → h.place ≡ slice_index places h.interface
  pub sorted : IsNonDecreasingBy (λ h. h.place) holders

-- they are the interfaces with a method of the key
abbrev pub AreHoldersOf : Rows → ℕ → List Holder → Type 0
AreHoldersOf rows key holders = (interface : ℕ) → ((h : Holder) × Contains holders h × (h.interface ≡ interface)) ↔ HoldsMethod rows interface key
