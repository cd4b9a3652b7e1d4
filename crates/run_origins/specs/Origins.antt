-- Where the objects come from that the slots of a frame hold after a step: each came along an edge into the slot's node.
use Rattle.std.specs.Prelude.{◌≡◌, ℕ, ◌+◌, ◌⊎◌, ◌++◌, List, [], ◌∷◌, Option, Some, true, false, length, slice_get}
use Rattle.lists.specs.Lists.{Has}
use Rattle.link_rules.specs.declared.code.Code.{Code}
use Rattle.link_rules.specs.declared.code.Code.TheVariants as code
use Rattle.link_rules.specs.Linked.{LinkedProgram}
use Rattle.link_rules.specs.WellLinked.{HasTarget}
use Rattle.link_rules.specs.Flow.{IsReturn}
use Rattle.link_sites.specs.Places.{CodeAt, HasCode, before, in_flight}
use Rattle.spds_rules.specs.declared.edge.EdgeKind.TheVariants.{Flow, Load, Call, Return}
use Rattle.spds_rules.specs.declared.node.Node.{Node}
use Rattle.spds_rules.specs.declared.node.Var.{Var}
use Rattle.spds_rules.specs.declared.node.Var.TheVariants as var
use Rattle.spds_rules.specs.declared.reach.Reach.{Reach}
use Rattle.spds_rules.specs.Edges.{AssignsTo, IsEdge, Passes, StoresStatic}
use Rattle.spds_rules.specs.Nodes.{IsNode, IsStart}
use Rattle.step_rules.specs.declared.parts.Slot.{Slot}
use Rattle.step_rules.specs.declared.parts.Value.{Value}
use Rattle.step_rules.specs.declared.parts.Value.TheVariants.{Null, Object}
use Rattle.step_rules.specs.Effects.{Effect, calls}
use Rattle.step_rules.specs.Runs.{Run}
use Rattle.step_rules.specs.Shapes.{IsCall}
use Rattle.step_rules.specs.Slots.{local_of, slot_of}
use Rattle.step_rules.specs.States.{Frame, HeapObject, Point, State, Write, place_of}
use Rattle.step_rules.specs.Steps.{Step}
use Rattle.run_sound.specs.Frames.{node_of, var_of}
use Rattle.run_sound.specs.Simulated.{IsLoadedFrom}
use Rattle.run_origins.specs.Standing.{StandsFor, node_at}

-- the frame goes on as this one: it is of the same method, has the same receiver and parameters, and the same locals but for one that its statement
-- assigns
pub record GoesOnAs (p : LinkedProgram) (f g : Frame) : Type 0 where
  pub method : g.method ≡ f.method
  pub this : g.this ≡ f.this
  pub params : g.params ≡ f.params
  pub locals : (x : ℕ) → (local_of g x ≡ local_of f x) ⊎ ((f.raised ≡ false) × HasCode p f.method f.index (λ c. AssignsTo c x))

-- g stands just behind the statement of f, and the local holds the value
pub record HasTaken (f g : Frame) (to : ℕ) (value : Option Value) : Type 0 where
  pub behind : place_of g ≡ before f.method (f.index + 1)
  pub holds : local_of g to ≡ value

-- an identity assigns what it names, and the frame goes on behind it
abbrev pub TakesBy : Code → Frame → Frame → Type 0
TakesBy (code.This to) f g = HasTaken f g to f.this
TakesBy (code.Param to number) f g = HasTaken f g to (slice_get f.params number)
TakesBy (code.Caught to) f g = HasTaken f g to f.caught
TakesBy _ f g = Unit {0}

-- the object has just been made, at a start node of its site
pub record IsMadeAt (p : LinkedProgram) (old new : List HeapObject) (x : ℕ) (n : Node) : Type 0 where
  pub last : x ≡ length old
  pub object : HeapObject
  pub there : slice_get new x ≡ Some object
  pub start : IsStart p object.site n

-- the object o holds the object x in the field: x was written into it
pub record HoldsIn (heap : List HeapObject) (o field x : ℕ) : Type 0 where
  pub object : HeapObject
  pub there : slice_get heap o ≡ Some object
  pub written : (w : Write) × Has object.writes w × (w.field ≡ field) × (w.value ≡ Object x)

-- the object came to the node from the frame on top: along a flow, from what stood for it there or from where it was made; along a load, from a local that
-- holds an object which holds it; or out of a static field
pub data CameFrom (p : LinkedProgram) (reach : Reach) (at : Point) (new : State) (n : Node) (x : ℕ) : Type 0 where
  flowed : {v : Var} → StandsFor p at.top x v → IsEdge p reach (node_at at.top v) Flow n → CameFrom p reach at new n x
  made : {v : Var} → IsMadeAt p at.heap new.heap x (node_at at.top v) → IsEdge p reach (node_at at.top v) Flow n → CameFrom p reach at new n x
  loaded : {base field o : ℕ} → local_of at.top base ≡ Some (Object o) → HoldsIn new.heap o field x
      → IsEdge p reach (node_at at.top (var.Local base)) (Load field) n → CameFrom p reach at new n x
  static : {field : ℕ} → slice_get at.statics field ≡ Some (Object x) → IsLoadedFrom p field n → CameFrom p reach at new n x

-- the statement is a call on a local that holds null
abbrev pub CallsOnNull : Frame → Code → Type 0
CallsOnNull f (code.Call to mode class key receiver args targets) = (x : ℕ) × (receiver ≡ Some x) × (local_of f x ≡ Some Null)
CallsOnNull f _ = ⊥

-- a step within a frame: it goes on, and all that its slots hold came from it
pub record IsWithin (p : LinkedProgram) (reach : Reach) (at : Point) (e : Effect) (new : State) : Type 0 where
  pub g : Frame
  pub frames : new.frames ≡ at.below ++ g ∷ []
  pub goes_on : GoesOnAs p at.top g
  pub no_call : (frame : Frame) → e ≡ calls frame → ⊥
  pub origins : (to : Slot) (x : ℕ) → slot_of g to ≡ Some (Object x) → CameFrom p reach at new (node_of g to) x
  pub identity : (c : Code) → CodeAt p at.top.method at.top.index c → at.top.raised ≡ false → TakesBy c at.top g
  -- a call that enters no method raises an exception, as its receiver is null
  pub null : (c : Code) → CodeAt p at.top.method at.top.index c → IsCall c → at.top.raised ≡ false
      → CallsOnNull at.top c × (place_of g ≡ in_flight at.top.method at.top.index)

-- a step into a method: the new frame is on top of the others, and all that its slots hold was passed by the call
pub record IsEntry (p : LinkedProgram) (reach : Reach) (at : Point) (e : Effect) (new : State) : Type 0 where
  pub g : Frame
  pub is_call : e ≡ calls g
  pub frames : new.frames ≡ (at.below ++ at.top ∷ []) ++ g ∷ []
  pub unraised : at.top.raised ≡ false
  pub begins : place_of g ≡ before g.method 0
  pub target : HasTarget p at.top.method at.top.index g.method
  pub origins : (to : Slot) (x : ℕ) → slot_of g to ≡ Some (Object x)
      → (v : Var) × StandsFor p at.top x v × IsEdge p reach (node_at at.top v) (Call (place_of at.top)) (node_of g to)
  -- what is passed is what the slots hold
  pub passed : (x : ℕ) (position : Slot) (value : Value) → Passes target.receiver target.args (var.Local x) (var_of position)
      → local_of at.top x ≡ Some value → slot_of g position ≡ Some value

-- by which way a method is left for the frame below, which goes on as g: by a return, just behind the call, or with an exception, which is in flight there
pub data LeavesBy (p : LinkedProgram) (top caller g : Frame) : Type 0 where
  return : top.raised ≡ false → HasCode p top.method top.index IsReturn → place_of g ≡ before caller.method (caller.index + 1) → LeavesBy p top caller g
  exception : top.raised ≡ true → place_of g ≡ in_flight caller.method caller.index → LeavesBy p top caller g

-- a step back: the frame below goes on, and all that its slots hold it held, or the top frame gave it back
pub record IsWayBack (p : LinkedProgram) (reach : Reach) (at : Point) (e : Effect) (new : State) : Type 0 where
  pub below : List Frame
  pub caller : Frame
  pub under : at.below ≡ below ++ caller ∷ []
  pub g : Frame
  pub frames : new.frames ≡ below ++ g ∷ []
  pub goes_on : GoesOnAs p caller g
  pub unraised : caller.raised ≡ false
  pub target : HasTarget p caller.method caller.index at.top.method
  pub way : LeavesBy p at.top caller g
  pub no_call : (frame : Frame) → e ≡ calls frame → ⊥
  pub origins : (to : Slot) (x : ℕ) → slot_of g to ≡ Some (Object x)
      → ((slot_of caller to ≡ Some (Object x)) × IsEdge p reach (node_of caller to) Flow (node_of g to))
      ⊎ ((v : Var) × StandsFor p at.top x v × IsEdge p reach (node_at at.top v) (Return (place_of caller)) (node_of g to))

-- by what a step does
pub data Origins (p : LinkedProgram) (reach : Reach) (at : Point) (e : Effect) (new : State) : Type 0 where
  within : IsWithin p reach at e new → Origins p reach at e new
  entry : IsEntry p reach at e new → Origins p reach at e new
  way_back : IsWayBack p reach at e new → Origins p reach at e new
  -- the run has ended
  ends : new.frames ≡ [] → ((frame : Frame) → e ≡ calls frame → ⊥) → Origins p reach at e new

-- some statement stores v into the static field
pub record IsStoredStatic (p : LinkedProgram) (field : ℕ) : Type 0 where
  pub n : Node
  pub node : IsNode p n
  pub unraised : n.place.raised ≡ false
  pub stores : HasCode p n.place.method n.place.index (λ c. StoresStatic c n.var field)

-- what a step does to the heap and the static fields: objects keep their site and class, and what a static field holds it held, or some statement stores it
pub record KeepsObjects (p : LinkedProgram) (at : Point) (new : State) : Type 0 where
  pub objects : (x : ℕ) (object : HeapObject) → slice_get at.heap x ≡ Some object
      → (later : HeapObject) × (slice_get new.heap x ≡ Some later) × (later.site ≡ object.site) × (later.class ≡ object.class)
  pub statics : (field x : ℕ) → slice_get new.statics field ≡ Some (Object x)
      → (slice_get at.statics field ≡ Some (Object x)) ⊎ IsStoredStatic p field

-- so it is in each step of each run, of any length
abbrev pub HasOrigins : LinkedProgram → Type 0
HasOrigins p = (reach : Reach) (count choice : ℕ) (old new : State) → Run p count old → (step : Step p old choice new)
    → Origins p reach step.at step.effect new × KeepsObjects p step.at new
