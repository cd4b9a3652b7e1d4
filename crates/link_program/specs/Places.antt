-- The first place of each text of a list.
use Rattle.std.specs.Prelude.{◌≡◌, ℕ, List, Some, length, slice_get}
use Rattle.lists.specs.Lists.{Has}
use Rattle.link_rules.specs.Accessed.{IsFirstPlace}
use Rattle.link_program.specs.declared.places.FirstPlaces.{FirstPlaces}

-- each text of the list is there, with its first place
pub record ArePlaces (texts : List (List ℕ)) (t : FirstPlaces) : Type 0 where
  pub as_many : length t.places.items ≡ length t.texts
  pub each : (k n : ℕ) (text : List ℕ) → slice_get t.texts k ≡ Some text → slice_get t.places.items k ≡ Some n → IsFirstPlace texts text n
  pub all : (i : ℕ) (text : List ℕ) → slice_get texts i ≡ Some text → Has t.texts text
