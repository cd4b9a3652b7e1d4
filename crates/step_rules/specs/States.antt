-- The states of a run.
use Rattle.std.specs.Prelude.{ℕ, ◌+◌, ◌++◌, List, [], ◌∷◌, Option, Some, None, Bool, true, false, length, replicate, slice_set}
use Rattle.link_rules.specs.Linked.{LinkedMethod}
use Rattle.link_sites.specs.declared.place.Place.{Place}
use Rattle.link_sites.specs.declared.site.Site.{Site}
use Rattle.step_rules.specs.declared.parts.Value.{Value}
use Rattle.step_rules.specs.declared.parts.Value.TheVariants.{Object}

-- a value that was written into a field
pub record Write : Type 0 where
  pub field : ℕ
  pub value : Value

-- an object: where it comes from, its class, and all that was written into its fields, the oldest first. The field 0 stands for the elements of an
-- array
pub record HeapObject : Type 0 where
  pub site : Site
  pub class : ℕ
  pub writes : List Write

-- a method that runs: the statement it stands before, or, where raised, at which an exception is in flight, and what its slots hold. A local is unset
-- until it is assigned; the receiver, and the exceptions caught and in flight, need not be there
pub record Frame : Type 0 where
  pub method : ℕ
  pub index : ℕ
  pub raised : Bool
  pub locals : List (Option Value)
  pub this : Option Value
  pub params : List Value
  pub caught : Option Value
  pub thrown : Option Value

-- whether the run goes on, and else how it has ended: by the root's return, by an exception that nothing caught, or by a statement that isn't well typed
pub data Ending : Type 0 where
  running : Ending
  ended : Ending
  uncaught : ℕ → Ending
  ill_typed : Ending

-- a state: the frames, that of the root first, the objects, each named by its place in the heap, and the values of the static fields
pub record State : Type 0 where
  pub frames : List Frame
  pub heap : List HeapObject
  pub statics : List Value
  pub ending : Ending

-- a state that goes on, with its top frame apart from those that wait below it
pub record Point : Type 0 where
  pub below : List Frame
  pub top : Frame
  pub heap : List HeapObject
  pub statics : List Value

-- the state at a point
abbrev pub state_of : Point → State
state_of at = record { frames = at.below ++ at.top ∷ []; heap = at.heap; statics = at.statics; ending = running }

-- the run has ended there: no frame is left, and the heap and the static fields stay
abbrev pub stopped : Ending → Point → State
stopped how at = record { frames = []; heap = at.heap; statics = at.statics; ending = how }

-- where a frame stands
abbrev pub place_of : Frame → Place
place_of frame = record { method = frame.method; index = frame.index; raised = frame.raised }

-- the frame of a call: at the method's first statement, with this receiver and these arguments
abbrev pub new_frame : ℕ → LinkedMethod → Option Value → List Value → Frame
new_frame number m this args = record {
  method = number;
  index = 0;
  raised = false;
  locals = replicate (length m.locals) None;
  this = this;
  params = args;
  caught = None;
  thrown = None;
}

-- an object into which nothing was written
abbrev pub new_object : Site → ℕ → HeapObject
new_object site class = record { site = site; class = class; writes = [] }

-- the object with one more write
abbrev pub written : HeapObject → ℕ → Value → HeapObject
written object field value = record object { writes = object.writes ++ record { field = field; value = value } ∷ [] }

-- the top frame goes on at the statement
abbrev pub goes_to : ℕ → Point → Point
goes_to index at = record at { top = record at.top { index = index } }

-- the top frame goes on at the next statement
abbrev pub goes_on : Point → Point
goes_on at = goes_to (at.top.index + 1) at

-- the local of the top frame gets the value, and it goes on
abbrev pub gets : ℕ → Value → Point → Point
gets to value at = record at { top = record at.top { index = at.top.index + 1; locals = slice_set at.top.locals to (Some value) } }

-- the object is in flight at the top frame's statement
abbrev pub throws : ℕ → Point → Point
throws object at = record at { top = record at.top { raised = true; thrown = Some (Object object) } }

-- the exception is caught: the top frame goes on at the handler, and nothing is in flight
abbrev pub catches : ℕ → ℕ → Point → Point
catches handler object at =
    record at { top = record at.top { index = handler; raised = false; caught = Some (Object object); thrown = None } }

-- one more object
abbrev pub allocates : HeapObject → Point → Point
allocates object at = record at { heap = at.heap ++ object ∷ [] }

-- one more frame, at the top
abbrev pub enters : Frame → Point → Point
enters frame at = record at { below = at.below ++ at.top ∷ []; top = frame }

-- below the top frame there is that of its caller, which is then the top one
abbrev pub under : List Frame → Frame → Point → Point
under below caller at = record at { below = below; top = caller }
