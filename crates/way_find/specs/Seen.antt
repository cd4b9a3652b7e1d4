-- What a search has found: where it was, and by which step it came there first.
use Rattle.std.specs.Prelude.{◌≡◌, ◌⊎◌, ◌+◌, ◌<◌, ◌++◌, ℕ, List, Some, length, slice_get}
use Rattle.lists.specs.Lists.{Has}
use Rattle.way_find.specs.declared.seen.Back.{Back}
use Rattle.way_find.specs.declared.ways.Step.{Step}
use Rattle.way_find.specs.Ways.{Leads}

-- a step leads from an earlier place of the list to this element
pub record ComesFrom {V : Type 0} (Goes : V → ℕ → V → Type 0) (seen : List V) (i : ℕ) (back : Back) (to : V) : Type 0 where
  pub at : ℕ
  pub number : back.before ≡ at + 1
  pub earlier : at < i
  pub from : V
  pub from_is : slice_get seen at ≡ Some from
  pub goes : Goes from back.label to

-- the element at the place is the end of a start, or of such a step
abbrev pub IsBack : {V : Type 0} → (V → ℕ → V → Type 0) → List (Step V) → List V → ℕ → Back → V → Type 0
IsBack Goes starts seen i back to = ((back.before ≡ 0) × Has starts (record { label = back.label; to = to })) ⊎ ComesFrom Goes seen i back to

-- for each element it is told how the search came there
pub record AreBacks {V : Type 0} (Goes : V → ℕ → V → Type 0) (starts : List (Step V)) (seen : List V) (backs : List Back) : Type 0 where
  pub as_many : length backs ≡ length seen
  pub each : (i : ℕ) (back : Back) (to : V) → slice_get backs i ≡ Some back → slice_get seen i ≡ Some to → IsBack Goes starts seen i back to

-- steps with these labels lead to the element at the place
abbrev pub LeadsTo : {V : Type 0} → (V → ℕ → V → Type 0) → List (Step V) → List V → ℕ → List ℕ → Type 0
LeadsTo {V} Goes starts seen i labels = (to : V) → slice_get seen i ≡ Some to → Leads Goes starts labels to

-- all that steps from these elements lead to is in the list
abbrev pub IsClosed : {V : Type 0} → (V → ℕ → V → Type 0) → List V → ℕ → Type 0
IsClosed {V} Goes seen done = (i : ℕ) (from to : V) (label : ℕ) → i < done → slice_get seen i ≡ Some from → Goes from label to → Has seen to

-- the ends of these starts are in the list
abbrev pub AreBegun : {V : Type 0} → List (Step V) → List V → Type 0
AreBegun {V} starts seen = (s : Step V) → Has starts s → Has seen s.to
