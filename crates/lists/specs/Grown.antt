-- Lists that have grown.
use Rattle.std.specs.Prelude.{◌≡◌, ◌⊎◌, ◌++◌, ℕ, List, Some, slice_get}
use Rattle.lists.specs.Lists.{Has}

-- at its end
abbrev pub IsLonger : {X : Type 0} → List X → List X → Type 0
IsLonger {X} old new = (more : List X) × (new ≡ old ++ more)

-- by those with the fact: what stood there stands there still, and they are all there
pub record IsGrownBy {X : Type 0} (P : X → Type 0) (old new : List X) : Type 0 where
  pub same : (i : ℕ) (x : X) → slice_get old i ≡ Some x → slice_get new i ≡ Some x
  pub each : (x : X) → Has new x → Has old x ⊎ P x
  pub all : (x : X) → P x → Has new x
