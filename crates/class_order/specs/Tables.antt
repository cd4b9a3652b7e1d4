-- What the tables of a tree keep, and what the searches that fill them have come to.
use Rattle.std.specs.Prelude.{◌≡◌, ℕ, ◌+◌, ◌<◌, ◌≤◌, ◌++◌, ◌↔◌, List, Contains, length, take, slice_get, slice_index, Some, ◌⊎◌}
use Rattle.class_order.specs.declared.finish.Stage.{Stage}
use Rattle.class_order.specs.declared.finish.Stage.TheVariants.{New, Open, Done}
use Rattle.class_order.specs.declared.finish.Visit.{Visit}
use Rattle.class_order.specs.declared.spans.Span.{Span}
use Rattle.class_order.specs.Groups.{group}
use Rattle.class_rules.specs.Paths.{Path, ProperPath}
use Rattle.class_order.specs.Spans.{AreApart, Holds}

-- e stands in the list of d: e is one step below d
abbrev pub Under : List (List ℕ) → ℕ → ℕ → Type 0
Under below e d = Contains (group below d) e

-- d stands in the list of e: e is one step below d
abbrev pub IsOver : List (List ℕ) → ℕ → ℕ → Type 0
IsOver above e d = Contains (group above e) d

-- each of the classes is below the count
abbrev pub IsWithin : ℕ → List ℕ → Type 0
IsWithin count classes = (c : ℕ) → Contains classes c → c < count

-- the classes now are those that are reached from one of the old
abbrev pub HasReached : List (List ℕ) → List ℕ → List ℕ → Type 0
HasReached steps old new = (c : ℕ) → Contains new c ↔ ((d : ℕ) × Contains old d × Path (Under steps) c d)

-- the classes were added to those reached, and no others
pub record Visits (classes old new : List ℕ) : Type 0 where
  pub added : List ℕ
  pub grown : new ≡ old ++ added
  pub visited : (c : ℕ) → Contains classes c → Contains new c
  pub only : (c : ℕ) → Contains new c → Contains old c ⊎ Contains classes c

-- each class in the order stands there once, after all that are one step below it
pub record IsSettled (below : List (List ℕ)) (order : List ℕ) : Type 0 where
  pub within : (c : ℕ) → Contains order c → c < length below
  pub after : (i c d : ℕ) → slice_get order i ≡ Some c → Under below d c → Contains (take i order) d
  pub once : (i c : ℕ) → slice_get order i ≡ Some c → Contains (take i order) c → ⊥

-- each class in the order stands after all that are one step below it
abbrev pub IsStraight : List (List ℕ) → List ℕ → Type 0
IsStraight below order = (i c d : ℕ) → slice_get order i ≡ Some c → Under below d c → Contains (take i order) d

-- each class stands in the order once, and after all that are below it, if it isn't below itself: a class that is left by a search downwards has
-- below it only what was left before, and what leads back to it
pub record IsDepthFirst (Step : ℕ → ℕ → Type 0) (order : List ℕ) : Type 0 where
  pub once : (i c : ℕ) → slice_get order i ≡ Some c → Contains (take i order) c → ⊥
  pub back : (i c d : ℕ) → slice_get order i ≡ Some c → ProperPath Step d c → (Contains (take i order) d → ⊥) → ProperPath Step c c

-- all classes stand in the order
pub record IsFinishing (below : List (List ℕ)) (order : List ℕ) : Type 0 where
  pub settled : IsSettled below order
  pub all : (c : ℕ) → c < length below → Contains order c

-- the classes of the path are those whose search goes on: each is one step below the one before it,
-- and of those one step below a class of the path the first `next` have begun
pub record IsSearch (below : List (List ℕ)) (stages : List Stage) (order : List ℕ) (path : List Visit) : Type 0 where
  pub len : length stages ≡ length below
  pub within : IsWithin (length below) order
  pub depth_first : IsDepthFirst (Under below) order
  pub left : (c d : ℕ) → slice_get stages c ≡ Some Done → Under below d c → slice_get stages d ≡ Some New → ⊥
  pub done : (c : ℕ) → slice_get stages c ≡ Some Done → Contains order c
  pub ordered : (c : ℕ) → Contains order c → slice_get stages c ≡ Some Done
  pub under_way : (c : ℕ) → slice_get stages c ≡ Some Open → (k : ℕ) × (v : Visit) × (slice_get path k ≡ Some v) × (v.class ≡ c)
  pub opened : (k : ℕ) (v : Visit) → slice_get path k ≡ Some v → slice_get stages v.class ≡ Some Open
  pub apart : (j k : ℕ) (v w : Visit) → j < k → slice_get path j ≡ Some v → slice_get path k ≡ Some w → v.class ≡ w.class → ⊥
  pub skipped : (k j : ℕ) (v : Visit) → slice_get path k ≡ Some v → j < v.next → slice_get stages (slice_index (group below v.class) j) ≡ Some New → ⊥
  pub counted : (k : ℕ) (v : Visit) → slice_get path k ≡ Some v → v.next ≤ length (group below v.class)
  pub linked : (k : ℕ) (v w : Visit) → slice_get path k ≡ Some v → slice_get path (k + 1) ≡ Some w → Under below w.class v.class

-- what is new now was new before, and isn't the class where the search began
abbrev pub HasBegun : List Stage → ℕ → List Stage → Type 0
HasBegun old start new = (c : ℕ) → slice_get new c ≡ Some New → (slice_get old c ≡ Some New) × (c ≡ start → ⊥)

-- each class has a place of its own, after those one step above it
pub record ArePlaces (below : List (List ℕ)) (places : List ℕ) : Type 0 where
  pub len : length places ≡ length below
  pub within : (c : ℕ) → c < length below → slice_index places c < length below
  pub own : (a b : ℕ) → a < length below → b < length below → slice_index places a ≡ slice_index places b → a ≡ b
  pub falls : (a b : ℕ) → Under below a b → slice_index places b < slice_index places a

-- each of so many classes has a place of its own among as many
pub record HavePlaces (count : ℕ) (places : List ℕ) : Type 0 where
  pub len : length places ≡ count
  pub within : (c : ℕ) → c < count → slice_index places c < count
  pub own : (a b : ℕ) → a < count → b < count → slice_index places a ≡ slice_index places b → a ≡ b

-- for each class the places of those from which it is reached
pub record IsReach (Step : ℕ → ℕ → Type 0) (count : ℕ) (places : List ℕ) (table : List (List Span)) : Type 0 where
  pub len : length table ≡ count
  pub apart : (b : ℕ) → AreApart (group table b)
  pub exact : (a b : ℕ) → a < count → b < count → Holds (group table b) (slice_index places a) ↔ Path Step a b
