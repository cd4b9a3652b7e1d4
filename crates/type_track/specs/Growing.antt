-- Lists that grow by the elements with a fact.
use Rattle.std.specs.Prelude.{◌≡◌, ◌++◌, List}
use Rattle.lists.specs.Lists.{AreExactly}

-- exactly the elements with the fact come behind those of the old list, each once, in the order
pub record GrowsBy {X : Type 0} (Precedes : X → X → Type 0) (P : X → Type 0) (old new : List X) : Type 0 where
  pub added : List X
  pub grown : new ≡ old ++ added
  pub exact : AreExactly Precedes P added
