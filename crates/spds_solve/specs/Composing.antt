-- Meets that two others give: what is stored into an object may be stored wherever that object is.
use Rattle.std.specs.Prelude.{◌≡◌, ◌<◌, ◌≤◌, ◌++◌, ◌∷◌, ℕ, List, [], Some, length, slice_get}
use Rattle.lists.specs.Lists.{Has}
use Rattle.post_star.specs.declared.key.Key.TheVariants.{Node}
use Rattle.post_star.specs.Groups.{found_at}
use Rattle.spds_solve.specs.declared.compose.Ways.{Ways}
use Rattle.spds_solve.specs.declared.met.Met.{Met}
use Rattle.spds_solve.specs.Mets.{numbers, numbers_of}

-- what two meets give, of which the one stores into the object of the other: the object of the one, and all else of the other
abbrev pub joined : Met → Met → Met
joined first next = record { object = first.object; base = next.base; store = next.store; string = next.string }

-- the meets at two places give one that rests on those that are there: all that the first one gives with meets before the second are there
pub record IsReady (mets : List Met) (a b : ℕ) : Type 0 where
  pub first : Met
  pub first_is : slice_get mets a ≡ Some first
  pub next : Met
  pub next_is : slice_get mets b ≡ Some next
  pub joins : next.object ≡ first.base
  pub before : (at : ℕ) (x : Met) → at < b → slice_get mets at ≡ Some x → x.object ≡ first.base → Has (numbers_of mets) (numbers (joined first x))

-- such meets were put last, one by one
pub data AreJoined (old : List Met) : List Met → Type 0 where
  none : AreJoined old old
  more : {mid new : List Met} (a b : ℕ) → AreJoined old mid → (ready : IsReady mid a b) → new ≡ mid ++ joined ready.first ready.next ∷ [] → AreJoined old new

-- the meet at the place is one of the object
pub record IsNext (mets : List Met) (object place : ℕ) : Type 0 where
  pub met : Met
  pub met_is : slice_get mets place ≡ Some met
  pub object_is : met.object ≡ object

-- the places of the meets of an object, as far as they were gone through: all of them, in order
pub record AreFiled (mets : List Met) (done object : ℕ) (places : List ℕ) : Type 0 where
  pub each : (place : ℕ) → Has places place → (place < done) × IsNext mets object place
  pub all : (place : ℕ) → place < done → IsNext mets object place → Has places place
  pub up : (i j a b : ℕ) → i < j → slice_get places i ≡ Some a → slice_get places j ≡ Some b → a < b

-- what the first meet gives with the second is there
abbrev pub IsThere : List Met → List Met → ℕ → ℕ → Type 0
IsThere old new a b = (x y : Met) → slice_get old a ≡ Some x → slice_get old b ≡ Some y → Has (numbers_of new) (numbers (joined x y))

-- as far as the meets were gone through they are filed, and those that were found by looking give only meets that are there
pub record AreComposed (mets : List Met) (w : Ways) : Type 0 where
  pub within : w.done ≤ length mets
  pub filed : (object : ℕ) → AreFiled mets w.done object (found_at w.by_object (Node object))
  pub bases : (base place : ℕ) → Has (found_at w.by_base (Node base)) place → (met : Met) × (slice_get mets place ≡ Some met) × (met.base ≡ base)
  pub there : (base place at : ℕ) → Has (found_at w.by_base (Node base)) place → at < w.done → IsNext mets base at → IsThere mets mets place at
