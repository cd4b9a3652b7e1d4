-- Lists that exactly the elements with a fact are added to.
use Rattle.std.specs.Prelude.{◌≡◌, ◌++◌, List}
use Rattle.lists.specs.Lists.{AreAll}

-- exactly the elements with the fact, each once, are added at the end
pub record IsAdded {X : Type 0} (P : X → Type 0) (old new : List X) : Type 0 where
  pub added : List X
  pub all : AreAll P added
  pub is : new ≡ old ++ added

-- a thing with the fact gives the element
abbrev pub Over : {A X : Type 0} → (A → Type 0) → (A → X → Type 0) → X → Type 0
Over {A} Q Gives x = (a : A) × Q a × Gives a x
