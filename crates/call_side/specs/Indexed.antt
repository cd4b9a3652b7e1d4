-- Base steps, and where those of a base, or of a base and a mark, are found.
use Rattle.std.specs.Prelude.{◌≡◌, ◌<◌, ◌↔◌, ℕ, List, Option, Some, None, slice_get}
use Rattle.lists.specs.Lists.{Has}
use Rattle.post_star.specs.declared.bases.BaseStep.{BaseStep}
use Rattle.post_star.specs.declared.key.Key.{Key}
use Rattle.post_star.specs.declared.key.Key.TheVariants.{Node, Marked}
use Rattle.post_star.specs.Derivations.{step_of}
use Rattle.post_star.specs.Groups.{Groups, found_at}
use Rattle.call_side.specs.declared.homes.Homes.{Homes}
use Rattle.call_side.specs.declared.origin.Origin.{Origin}
use Rattle.call_side.specs.Trails.{IsTrailOf}

-- base steps and the last base
pub record BaseList : Type 0 where
  pub steps : List BaseStep
  pub last : ℕ

-- elements by their keys: each of the list under its own, and no other
abbrev pub IsFiledBy : {X : Type 0} → (X → Key) → List X → Groups X → Type 0
IsFiledBy {X} key_of xs groups = (key : Key) (x : X) → Has (found_at groups key) x ↔ (Has xs x × (key_of x ≡ key))

-- the key of a step by its base
abbrev pub base_key : BaseStep → Key
base_key step = Node step.base

-- the key of a step by its base and its mark
abbrev pub mark_key : BaseStep → Key
mark_key step = Marked step.base step.mark

-- the key of a step by the base below
abbrev pub below_key : BaseStep → Key
below_key step = Node step.below

-- a base may come in with this origin: it is the last one, or a step leads from it to one that is there
abbrev pub MayComeHome : List BaseStep → ℕ → List ℕ → ℕ → Option Origin → Type 0
MayComeHome steps last bases base None = base ≡ last
MayComeHome steps last bases base (Some origin) = (below : ℕ) × (slice_get bases origin.from ≡ Some below) × Has steps (step_of base origin.mark below)

-- the base came in with this origin as the one with the number
abbrev pub ComesHome : List BaseStep → ℕ → List ℕ → ℕ → ℕ → Option Origin → Type 0
ComesHome steps last bases number base None = base ≡ last
ComesHome steps last bases number base (Some origin) = (origin.from < number) × MayComeHome steps last bases base (Some origin)

-- bases that lead home, each with the first step of its way
abbrev pub AreHomes : List BaseStep → ℕ → List ℕ → List (Option Origin) → Type 0
AreHomes steps last bases origins = IsTrailOf (ComesHome steps last) bases origins

-- the base of each step that leads to one of the first bases, so many of them, is there
abbrev pub AreSpread : List BaseStep → ℕ → List ℕ → Type 0
AreSpread steps count bases = (number : ℕ) (step : BaseStep) → number < count → Has steps step → slice_get bases number ≡ Some step.below → Has bases step.base

-- so they are, the last base is one of them, and so is each base that a step leads from to one of them: no base that leads home is left out
pub record IsHome (steps : List BaseStep) (last : ℕ) (h : Homes) : Type 0 where
  pub ways : AreHomes steps last h.bases.keys h.origins.items
  pub has_last : Has h.bases.keys last
  pub closed : (step : BaseStep) → Has steps step → Has h.bases.keys step.below → Has h.bases.keys step.base

-- the steps are found by both keys
pub record AreFiled (steps : List BaseStep) (by_base by_mark : Groups BaseStep) : Type 0 where
  pub bases : IsFiledBy base_key steps by_base
  pub marks : IsFiledBy mark_key steps by_mark

-- so they are, and of each base that leads to the last one a way is known
pub record AreIndexed (steps : List BaseStep) (last : ℕ) (by_base by_mark : Groups BaseStep) (h : Homes) : Type 0 where
  pub filed : AreFiled steps by_base by_mark
  pub homes : IsHome steps last h
