-- The state that a machine keeps.
use Rattle.std.specs.Prelude.{◌≡◌, ℕ, ◌+◌, ◌<◌, ◌^◌, List, Some, length, slice_get}
use Rattle.jim_step.specs.declared.kept.Kept.{Kept}
use Rattle.jim_step.specs.declared.plan.Effect.{Effect}
use Rattle.jim_step.specs.declared.plan.Effect.TheVariants as effect
use Rattle.jim_step.specs.Frames.{frames_of}
use Rattle.jim_step.specs.Plans.{meant}
use Rattle.link_rules.specs.Linked.{LinkedProgram}
use Rattle.link_sites.specs.declared.site.Site.{Site}
use Rattle.step_rules.specs.declared.parts.Moved.{Moved}
use Rattle.step_rules.specs.declared.parts.Moved.TheVariants as moved
use Rattle.step_rules.specs.declared.parts.Value.{Value}
use Rattle.step_rules.specs.Effects.{Effect as Offered}
use Rattle.step_rules.specs.Offers.{Offers}
use Rattle.step_rules.specs.Shapes.{FitsEffect}
use Rattle.step_rules.specs.States.{Ending, HeapObject, Point, State, ended, goes_on, ill_typed, running, state_of, uncaught, written}
use Rattle.step_rules.specs.Steps.{Becomes, nested, with_object}

-- how a run has ended, by where its last step led
abbrev pub ending_of : Moved → Ending
ending_of moved.Went = running
ending_of moved.Ended = ended
ending_of (moved.Uncaught o) = uncaught o
ending_of moved.IllTyped = ill_typed

-- the state that is kept
abbrev pub state_in : Kept → State
state_in kept = record {
  frames = frames_of kept.frames.items;
  heap = kept.heap;
  statics = kept.statics.items;
  ending = ending_of kept.moved;
}

-- a state that goes on is kept, and the effect is one that fits it
pub record IsAbout (p : LinkedProgram) (effect : Effect) (kept : Kept) : Type 0 where
  pub at : Point
  pub stands : state_in kept ≡ state_of at
  pub next : at.top.index + 1 < 2 ^ 32
  pub fits : FitsEffect p at (meant p at.top effect)

-- the effect leads from the one state to the other
abbrev pub Leads : LinkedProgram → Effect → Kept → Kept → Type 0
Leads p effect old new = (at : Point) → state_in old ≡ state_of at → Becomes p at (meant p at.top effect) (state_in new)

-- the choice of a state that goes on has the effect
abbrev pub Chooses : LinkedProgram → Kept → ℕ → Effect → Type 0
Chooses p kept choice effect = (at : Point) → state_in kept ≡ state_of at
    → (offered : List Offered) × Offers p at offered × (slice_get offered choice ≡ Some (meant p at.top effect))

-- the same state
abbrev pub IsSameState : Kept → Kept → Type 0
IsSameState old new = state_in new ≡ state_in old

-- a state that goes on becomes the one at the point that the function gives
abbrev pub Moves : (Point → Point) → Kept → Kept → Type 0
Moves f old new = (at : Point) → state_in old ≡ state_of at → state_in new ≡ state_of (f at)

-- it becomes one that stands in the relation to it
abbrev pub MovesTo : (Point → State → Type 0) → Kept → Kept → Type 0
MovesTo R old new = (at : Point) → state_in old ≡ state_of at → R at (state_in new)

-- a value is written into an object, and the top frame goes on
abbrev pub Writes : ℕ → ℕ → Value → Point → State → Type 0
Writes o field value at new =
    (object : HeapObject) × (slice_get at.heap o ≡ Some object) × (new ≡ state_of (goes_on (with_object o (written object field value) at)))

-- a new array is made as an element of another, and a local of the top frame gets it
abbrev pub Nests : ℕ → ℕ → Site → ℕ → Point → State → Type 0
Nests to o inner class at new =
    (outer : HeapObject) × (slice_get at.heap o ≡ Some outer) × (new ≡ state_of (nested to o outer inner class at))

-- a frame that is added has a number
abbrev pub HasRoom : Effect → Kept → Type 0
HasRoom (effect.Calls number this) kept = length kept.frames.items + 1 < 2 ^ 32
HasRoom _ kept = Unit {0}
