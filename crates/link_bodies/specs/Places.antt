-- The first place of each name of a list.
use Rattle.std.specs.Prelude.{◌≡◌, ℕ, ◌+◌, ◌*◌, ◌^◌, ◌<◌, List, Option, Some, None, All, length, map, slice_get}
use Rattle.std.specs.List.{Contains}
use Rattle.std.specs.List.Sorted.{IsNonDecreasingBy}
use Rattle.lists.specs.Lists.{IsLeast, Has}
use Rattle.jim_ast.specs.declared.names.NameId.{NameId}
use Rattle.jim_ast.specs.declared.syntax.Label.{Label}
use Rattle.link_bodies.specs.declared.places.FirstPlaces.{FirstPlaces}
use Rattle.link_bodies.specs.declared.places.NamedPlace.{NamedPlace}

-- the first place of a name, if it has one
abbrev pub IsFirstPlace : List NameId → NameId → Option ℕ → Type 0
IsFirstPlace names name (Some n) = IsLeast (λ i. slice_get names i ≡ Some name) n
IsFirstPlace names name None = Has names name → ⊥

-- what orders places: the numbers of their names, and then the places themselves
abbrev pub key_of : NamedPlace → ℕ
key_of e = e.name.0 * 2 ^ 32 + e.place

-- the name stands at the place of the list
pub record IsNamedIn (names : List NameId) (e : NamedPlace) : Type 0 where
  pub there : slice_get names e.place ≡ Some e.name
  pub small : e.place < 2 ^ 32

-- the places are those of the list before the end, each with its name, in whatever order
pub record AreNamed (names : List NameId) (end : ℕ) (places : List NamedPlace) : Type 0 where
  pub each : All (IsNamedIn names) places
  pub all : (i : ℕ) (name : NameId) → i < end → slice_get names i ≡ Some name → Contains places (record { name = name; place = i })

-- the table has the places of the list, by their keys
pub record KnowsPlaces (names : List NameId) (t : FirstPlaces) : Type 0 where
  pub named : AreNamed names (length names) t.places.items
  pub ordered : IsNonDecreasingBy key_of t.places.items

-- the names of labels
abbrev pub label_names : List Label → List NameId
label_names labels = map (λ l. l.name) labels

-- a label that stands before the statement with this index has the name of an earlier one
pub record RepeatsName (labels : List Label) (index : ℕ) : Type 0 where
  pub place : ℕ
  pub label : Label
  pub there : slice_get labels place ≡ Some label
  pub earlier_place : ℕ
  pub before : earlier_place < place
  pub earlier : Label
  pub earlier_there : slice_get labels earlier_place ≡ Some earlier
  pub same : label.name ≡ earlier.name
  pub at_label : index ≡ label.index
