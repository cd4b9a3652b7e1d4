-- Lists of elements that were found one from another.
use Rattle.std.specs.Prelude.{◌≡◌, ◌<◌, ℕ, List, [], ◌∷◌, Option, Some, None, length, slice_get}
use Rattle.call_side.specs.declared.origin.Origin.{Origin}

-- each element has an origin, with which it may come as the one with its number
pub record IsTrailOf {X : Type 0} (Comes : List X → ℕ → X → Option Origin → Type 0) (xs : List X) (origins : List (Option Origin)) : Type 0 where
  pub as_many : length origins ≡ length xs
  pub each : (number : ℕ) (x : X) (origin : Option Origin) → slice_get xs number ≡ Some x → slice_get origins number ≡ Some origin → Comes xs number x origin

-- no element is lost or renumbered
abbrev pub AreKept : {X : Type 0} → List X → List X → Type 0
AreKept {X} old new = (number : ℕ) (x : X) → slice_get old number ≡ Some x → slice_get new number ≡ Some x

-- each origin is an earlier element
abbrev pub AreBackward : List (Option Origin) → Type 0
AreBackward origins = (number : ℕ) (origin : Origin) → slice_get origins number ≡ Some (Some origin) → origin.from < number

-- the marks from the element with the number back to one that has no origin
pub data IsBack (origins : List (Option Origin)) : ℕ → List ℕ → Type 0 where
  begins : {number : ℕ} → slice_get origins number ≡ Some None → IsBack origins number []
  comes : {number : ℕ} {origin : Origin} {marks : List ℕ} → slice_get origins number ≡ Some (Some origin) → IsBack origins origin.from marks → IsBack origins number (origin.mark ∷ marks)
