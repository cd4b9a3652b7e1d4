-- What each state of a run keeps.
use Rattle.std.specs.Prelude.{◌≡◌, ℕ, ◌+◌, ◌<◌, ◌≤◌, List, [], Option, Some, None, Bool, true, false, length, slice_get}
use Rattle.link_rules.specs.declared.code.Code.{Code}
use Rattle.link_rules.specs.declared.code.Code.TheVariants.{Call}
use Rattle.link_rules.specs.Linked.{LinkedMethod, LinkedProgram}
use Rattle.link_sites.specs.Places.{HasCode}
use Rattle.step_rules.specs.declared.parts.Moved.{Moved}
use Rattle.step_rules.specs.declared.parts.Moved.TheVariants as moved
use Rattle.step_rules.specs.declared.parts.Slot.{Slot}
use Rattle.step_rules.specs.declared.parts.Value.{Value}
use Rattle.step_rules.specs.declared.parts.Value.TheVariants.{Null, Number, Object}
use Rattle.step_rules.specs.Effects.{Effect}
use Rattle.step_rules.specs.Effects as effect
use Rattle.step_rules.specs.Slots.{slot_of, values_of}
use Rattle.step_rules.specs.States.{Ending, Frame, HeapObject, Point, State, ended, ill_typed, running, state_of, uncaught}

-- the fact holds of each element
abbrev pub EachOf : {X : Type 0} → (X → Type 0) → List X → Type 0
EachOf {X} P xs = (i : ℕ) (x : X) → slice_get xs i ≡ Some x → P x

-- a value over a heap of so many objects
abbrev pub FitsValue : ℕ → Value → Type 0
FitsValue count (Object o) = o < count
FitsValue count Null = Unit {0}
FitsValue count Number = Unit {0}

-- what a slot holds, if it is set
abbrev pub FitsSlot : ℕ → Option Value → Type 0
FitsSlot count (Some value) = FitsValue count value
FitsSlot count None = Unit {0}

-- an object is in flight exactly where the frame is raised
abbrev pub IsInFlight : Bool → Option Value → Type 0
IsInFlight true (Some (Object o)) = Unit {0}
IsInFlight false None = Unit {0}
IsInFlight _ _ = ⊥

-- a frame stands at a statement of its method, has its locals, and holds objects of the heap
pub record FitsFrame (p : LinkedProgram) (count : ℕ) (frame : Frame) : Type 0 where
  pub method : LinkedMethod
  pub there : slice_get p.methods frame.method ≡ Some method
  pub within : frame.index < length method.code
  pub locals : length frame.locals ≡ length method.locals
  pub holds : (s : Slot) → FitsSlot count (slot_of frame s)
  pub flight : IsInFlight frame.raised frame.thrown

abbrev pub IsCall : Code → Type 0
IsCall (Call to mode class key receiver args targets) = Unit {0}
IsCall _ = ⊥

-- a frame that waits stands at a call, and nothing is in flight there
abbrev pub Waits : LinkedProgram → Frame → Type 0
Waits p frame = (frame.raised ≡ false) × HasCode p frame.method frame.index IsCall

-- an object has a class of the program, and what was written into it are objects of the heap
pub record FitsObject (p : LinkedProgram) (count : ℕ) (object : HeapObject) : Type 0 where
  pub class : object.class < length p.classes
  pub values : (field : ℕ) → EachOf (FitsValue count) (values_of object field)

-- what is kept of a state that goes on
pub record FitsPoint (p : LinkedProgram) (at : Point) : Type 0 where
  pub constants : length p.texts + length p.class_texts ≤ length at.heap
  pub objects : EachOf (FitsObject p (length at.heap)) at.heap
  pub as_many : length at.statics ≡ p.static_count
  pub statics : EachOf (FitsValue (length at.heap)) at.statics
  pub below : EachOf (FitsFrame p (length at.heap)) at.below
  pub waits : EachOf (Waits p) at.below
  pub top : FitsFrame p (length at.heap) at.top

-- by whether the run goes on; an exception that nothing caught is an object of the heap
abbrev pub HasShapeBy : Ending → LinkedProgram → State → Type 0
HasShapeBy running p s = (at : Point) × (s ≡ state_of at) × FitsPoint p at
HasShapeBy ended p s = s.frames ≡ []
HasShapeBy (uncaught o) p s = (s.frames ≡ []) × (o < length s.heap)
HasShapeBy ill_typed p s = s.frames ≡ []

-- what each state of a run keeps
abbrev pub HasShape : LinkedProgram → State → Type 0
HasShape p s = HasShapeBy s.ending p s

-- an exception that nothing caught is one of so many objects
abbrev pub IsKnown : ℕ → Moved → Type 0
IsKnown count (moved.Uncaught o) = o < count
IsKnown count _ = Unit {0}

-- the method has a statement there
abbrev pub GoesIn : LinkedProgram → ℕ → ℕ → Type 0
GoesIn p method index = HasCode p method index (λ code. Unit {0})

-- the top frame may go on at the next statement
abbrev pub GoesOn : LinkedProgram → Point → Type 0
GoesOn p at = GoesIn p at.top.method (at.top.index + 1)

-- an effect that a state may offer leads to a state like it
abbrev pub FitsEffect : LinkedProgram → Point → Effect → Type 0
FitsEffect p at effect.is_ill_typed = Unit {0}
FitsEffect p at (effect.raises kind) = kind < 6
FitsEffect p at (effect.throws o) = o < length at.heap
FitsEffect p at (effect.goes index) = GoesIn p at.top.method index
FitsEffect p at (effect.gets to value) = GoesOn p at × (to < length at.top.locals) × FitsValue (length at.heap) value
FitsEffect p at (effect.makes to class) = GoesOn p at × (to < length at.top.locals) × (class < length p.classes)
FitsEffect p at (effect.nests to o inner class) = GoesOn p at × (to < length at.top.locals) × (o < length at.heap) × (class < length p.classes)
FitsEffect p at (effect.writes o field value) = GoesOn p at × (o < length at.heap) × FitsValue (length at.heap) value
FitsEffect p at (effect.sets field value) = GoesOn p at × (field < length at.statics) × FitsValue (length at.heap) value
FitsEffect p at (effect.calls frame) = Waits p at.top × FitsFrame p (length at.heap) frame
FitsEffect p at (effect.returns value) = FitsSlot (length at.heap) value
FitsEffect p at (effect.handles index o) = GoesIn p at.top.method index × (o < length at.heap)
FitsEffect p at (effect.leaves o) = o < length at.heap
