-- The steps of a run.
use Rattle.std.specs.Prelude.{◌≡◌, ◌≢◌, ℕ, ◌<◌, ◌⊎◌, ◌++◌, List, [], ◌∷◌, Option, Some, None, length, slice_get, slice_set}
use Rattle.link_rules.specs.declared.code.Code.{Code}
use Rattle.link_rules.specs.declared.code.Code.TheVariants.{Call}
use Rattle.link_rules.specs.Linked.{LinkedProgram}
use Rattle.link_sites.specs.declared.site.Site.{Site}
use Rattle.link_sites.specs.declared.site.Site.TheVariants as site
use Rattle.link_sites.specs.Places.{HasCode}
use Rattle.link_sites.specs.Sites.{IsClassOfRaised}
use Rattle.step_rules.specs.declared.parts.Moved.{Moved}
use Rattle.step_rules.specs.declared.parts.Moved.TheVariants as moved
use Rattle.step_rules.specs.declared.parts.Value.{Value}
use Rattle.step_rules.specs.declared.parts.Value.TheVariants.{Object}
use Rattle.step_rules.specs.Effects.{Effect}
use Rattle.step_rules.specs.Effects as effect
use Rattle.step_rules.specs.Offers.{Offers}
use Rattle.step_rules.specs.States.{Ending, Frame, HeapObject, Point, State, allocates, catches, ended, enters, gets, goes_on, goes_to, ill_typed, new_object, place_of, running, state_of, stopped, throws, uncaught, under, written}

-- a new exception of the class is in flight
abbrev pub raised : ℕ → ℕ → Point → Point
raised kind class at = throws (length at.heap) (allocates (new_object (site.Raised (place_of at.top) kind) class) at)

-- a new object of the class, which the local gets
abbrev pub made : ℕ → ℕ → Point → Point
made to class at = gets to (Object (length at.heap)) (allocates (new_object (site.New (place_of at.top)) class) at)

-- the object at this place of the heap is replaced
abbrev pub with_object : ℕ → HeapObject → Point → Point
with_object o object at = record at { heap = slice_set at.heap o object }

-- a new array of the site and the class is an element of the array, and the local gets it
abbrev pub nested : ℕ → ℕ → HeapObject → Site → ℕ → Point → Point
nested to o outer inner class at =
    let made = Object (length at.heap) in
    gets to made (with_object o (written outer 0 made) (allocates (new_object inner class) at))

-- the static field has the value
abbrev pub with_static : ℕ → Value → Point → Point
with_static field value at = record at { statics = slice_set at.statics field value }

-- the caller goes on with what is returned: where it wants a value and none is given, the step isn't well typed
abbrev pub Receives : Option ℕ → Option Value → Point → State → Type 0
Receives None value caller new = new ≡ state_of (goes_on caller)
Receives (Some to) (Some value) caller new = new ≡ state_of (gets to value caller)
Receives (Some to) None caller new = new ≡ stopped ill_typed caller

-- a caller stands at a call
abbrev pub ReceivesAt : Code → Option Value → Point → State → Type 0
ReceivesAt (Call to mode class key receiver args targets) value caller new = Receives to value caller new
ReceivesAt _ value caller new = ⊥

-- the top frame goes: the root's return ends the run, else the caller goes on
abbrev pub Returns : LinkedProgram → Point → Option Value → State → Type 0
Returns p at value new = ((at.below ≡ []) × (new ≡ stopped ended at))
    ⊎ ((below : List Frame) × (caller : Frame) × (at.below ≡ below ++ caller ∷ [])
    × HasCode p caller.method caller.index (λ code. ReceivesAt code value (under below caller at) new))

-- the top frame goes: an exception that leaves the root ends the run, else it is in flight at the caller's call
abbrev pub Leaves : Point → ℕ → State → Type 0
Leaves at o new = ((at.below ≡ []) × (new ≡ stopped (uncaught o) at))
    ⊎ ((below : List Frame) × (caller : Frame) × (at.below ≡ below ++ caller ∷ []) × (new ≡ state_of (throws o (under below caller at))))

-- the state that an effect leads to
abbrev pub Becomes : LinkedProgram → Point → Effect → State → Type 0
Becomes p at effect.is_ill_typed new = new ≡ stopped ill_typed at
Becomes p at (effect.raises kind) new = (class : ℕ) × IsClassOfRaised p kind class × (new ≡ state_of (raised kind class at))
Becomes p at (effect.throws o) new = new ≡ state_of (throws o at)
Becomes p at (effect.goes index) new = new ≡ state_of (goes_to index at)
Becomes p at (effect.gets to value) new = new ≡ state_of (gets to value at)
Becomes p at (effect.makes to class) new = new ≡ state_of (made to class at)
Becomes p at (effect.writes o field value) new =
    (object : HeapObject) × (slice_get at.heap o ≡ Some object) × (new ≡ state_of (goes_on (with_object o (written object field value) at)))
Becomes p at (effect.nests to o inner class) new =
    (outer : HeapObject) × (slice_get at.heap o ≡ Some outer) × (new ≡ state_of (nested to o outer inner class at))
Becomes p at (effect.sets field value) new = new ≡ state_of (goes_on (with_static field value at))
Becomes p at (effect.calls frame) new = new ≡ state_of (enters frame at)
Becomes p at (effect.returns value) new = Returns p at value new
Becomes p at (effect.handles handler o) new = new ≡ state_of (catches handler o at)
Becomes p at (effect.leaves o) new = Leaves at o new

-- a step of a run by one of its choices, which are numbered from 0
pub record Step (p : LinkedProgram) (old : State) (choice : ℕ) (new : State) : Type 0 where
  pub at : Point
  pub stands : old ≡ state_of at
  pub offered : List Effect
  pub offers : Offers p at offered
  pub effect : Effect
  pub chosen : slice_get offered choice ≡ Some effect
  pub becomes : Becomes p at effect new

-- how many choices the step from a state that goes on has
pub record HasChoices (p : LinkedProgram) (s : State) (count : ℕ) : Type 0 where
  pub at : Point
  pub stands : s ≡ state_of at
  pub offered : List Effect
  pub offers : Offers p at offered
  pub as_many : count ≡ length offered

-- how many choices the next step has: none once the run has ended
abbrev pub Choices : LinkedProgram → State → ℕ → Type 0
Choices p s count = ((s.ending ≢ running) × (count ≡ 0)) ⊎ HasChoices p s count

-- the next step has the choice
abbrev pub HasChoice : LinkedProgram → State → ℕ → Type 0
HasChoice p s choice = (count : ℕ) × Choices p s count × (choice < count)

-- what is told of a step, by the state that it leads to
abbrev pub told : Ending → Moved
told running = moved.Went
told ended = moved.Ended
told (uncaught o) = moved.Uncaught o
told ill_typed = moved.IllTyped
