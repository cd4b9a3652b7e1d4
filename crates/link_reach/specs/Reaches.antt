-- What is told of all that may be reached.
use Rattle.std.specs.Prelude.{ℕ, ◌<◌, ◌↔◌, List, length}
use Rattle.lists.specs.Lists.{Has, AreIncreasing}
use Rattle.link_rules.specs.Classes.{methods_of}
use Rattle.link_rules.specs.Reach.{DeclaresBody, Reached}
use Rattle.link_rules.specs.Root.{initializer_key}
use Rattle.link_rules.specs.World.{World}

-- the rows of the methods of classes that a run may reach, in order
pub record AreReached (w : World) (rows : List ℕ) : Type 0 where
  pub ordered : AreIncreasing rows
  pub each : (row : ℕ) → Has rows row ↔ ((row < length (methods_of w.classes)) × Reached w row)

-- the list has the numbers below the count with the fact, in order
pub record AreThose (P : ℕ → Type 0) (count : ℕ) (numbers : List ℕ) : Type 0 where
  pub ordered : AreIncreasing numbers
  pub each : (n : ℕ) → Has numbers n ↔ ((n < count) × P n)

-- the class is asked for and declares an initializer with a body
abbrev pub IsStarted : World → List ℕ → ℕ → Type 0
IsStarted w asked c = Has asked c × ((row : ℕ) × DeclaresBody w c initializer_key row)
