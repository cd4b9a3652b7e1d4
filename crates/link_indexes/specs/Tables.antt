-- The tables of the indexes, and what they say of the code of a program.
use Rattle.std.specs.Prelude.{◌≡◌, ℕ, List, Some, map, slice_get}
use Rattle.link_rules.specs.declared.code.Code.{Code}
use Rattle.link_rules.specs.Flow.{Next, IsRaised, IsReturn}
use Rattle.link_indexes.specs.declared.method.MethodCode.{MethodCode}
use Rattle.link_indexes.specs.declared.method.Place.{Place}
use Rattle.link_indexes.specs.Facts.{Calls, Stores, StoresStatic}
use Rattle.link_indexes.specs.Rows.{AreTheIndexes, AreThePlaces}
use Rattle.lists.specs.Filings.{row}

-- the code of each method
abbrev pub codes_of : List MethodCode → List (List Code)
codes_of methods = map (λ m. m.code) methods

-- a statement with the fact stands at the index
abbrev pub IsAtIndex : (Code → Type 0) → List Code → ℕ → Type 0
IsAtIndex Fact code index = (c : Code) × (slice_get code index ≡ Some c) × Fact c

-- a statement with the fact stands at the index of the method
abbrev pub IsInMethod : (Code → Type 0) → List (List Code) → ℕ → ℕ → Type 0
IsInMethod Fact codes method index = (code : List Code) × (slice_get codes method ≡ Some code) × IsAtIndex Fact code index

-- a statement with the fact stands at the place
abbrev pub IsAt : (Code → Type 0) → List (List Code) → Place → Type 0
IsAt Fact codes p = IsInMethod Fact codes p.method p.index

-- a run may go on from the statement at t to the one at s
abbrev pub GoesOn : List Code → ℕ → ℕ → Type 0
GoesOn code s t = (c : Code) × (slice_get code t ≡ Some c) × Next c t s

-- the same, in the code of the method
abbrev pub GoesOnIn : List (List Code) → ℕ → ℕ → ℕ → Type 0
GoesOnIn codes method s t = (code : List Code) × (slice_get codes method ≡ Some code) × GoesOn code s t

-- for each number the places of the statements that have it
abbrev pub ArePlacesBy : (ℕ → Code → Type 0) → List (List Code) → (ℕ → List Place) → Type 0
ArePlacesBy Fact codes rows = (number : ℕ) → AreThePlaces (IsAt (Fact number) codes) (rows number)

-- for each method the indexes of the statements with the fact
abbrev pub AreIndexesBy : (Code → Type 0) → List (List Code) → List (List ℕ) → Type 0
AreIndexesBy Fact codes rows = (method : ℕ) → AreTheIndexes (IsInMethod Fact codes method) (row rows method)

-- for each statement the indexes of those that a run may come from
abbrev pub ArePredecessors : List Code → (ℕ → List ℕ) → Type 0
ArePredecessors code rows = (s : ℕ) → AreTheIndexes (GoesOn code s) (rows s)

-- the same, for each method
abbrev pub ArePredecessorsBy : List (List Code) → List (List (List ℕ)) → Type 0
ArePredecessorsBy codes tables = (method s : ℕ) → AreTheIndexes (GoesOnIn codes method s) (row (row tables method) s)

-- the tables: places by the number of a method or a field, indexes by that of the method, and indexes by method and index
pub record Tables : Type 0 where
  pub callers : List (List Place)
  pub stores : List (List Place)
  pub static_stores : List (List Place)
  pub returns : List (List ℕ)
  pub raised : List (List ℕ)
  pub before : List (List (List ℕ))

-- the tables are those of the code. A number that no statement has, and a method and an index that aren't there, have the empty list
pub record AreIndexes (codes : List (List Code)) (t : Tables) : Type 0 where
  pub callers : ArePlacesBy Calls codes (row t.callers)
  pub stores : ArePlacesBy Stores codes (row t.stores)
  pub static_stores : ArePlacesBy StoresStatic codes (row t.static_stores)
  pub returns : AreIndexesBy IsReturn codes t.returns
  pub raised : AreIndexesBy IsRaised codes t.raised
  pub before : ArePredecessorsBy codes t.before
