-- The monitor of a run: it keeps the state of each object, and changes it by the events on the object.
use Rattle.std.specs.Prelude.{◌≡◌, ℕ, zero, suc, ◌-◌, ◌++◌, List, Some, length, replicate, slice_get, slice_set}
use Rattle.class_rules.specs.Rows.{Sub}
use Rattle.link_rules.specs.Linked.{LinkedProgram}
use Rattle.link_sites.specs.Sites.{IsArraySite}
use Rattle.step_rules.specs.declared.parts.Value.TheVariants.{Object}
use Rattle.step_rules.specs.Effects.{calls}
use Rattle.step_rules.specs.Runs.{IsFirstState, Run}
use Rattle.step_rules.specs.States.{Frame, HeapObject, State}
use Rattle.step_rules.specs.Steps.{Step}
use Rattle.track_rules.specs.Protocols.{HasRow, ProtocolParts}
use Rattle.track_runs.specs.Events.{IsEventAt}

-- the protocol says something of the object: it is no array, and its class is that of the protocol or below it
abbrev pub IsTracked : LinkedProgram → ProtocolParts → HeapObject → Type 0
IsTracked p k object = (IsArraySite p object.site → ⊥) × Sub p.rows object.class k.class

-- the step is the event on the object: it enters a method by a call that is the event, and the receiver is the object, which is tracked
pub record IsEvent (p : LinkedProgram) (k : ProtocolParts) {s next : State} {choice : ℕ} (step : Step p s choice next) (event o : ℕ) : Type 0 where
  pub frame : Frame
  pub entered : step.effect ≡ calls frame
  pub receiver : frame.this ≡ Some (Object o)
  pub object : HeapObject
  pub there : slice_get s.heap o ≡ Some object
  pub tracked : IsTracked p k object
  pub statement : IsEventAt p k event step.at.top.method step.at.top.index

-- the states of more objects, of which the new ones are in state 0
abbrev pub with_new : List ℕ → ℕ → List ℕ
with_new states count = states ++ replicate (count - length states) 0

-- the run has met the protocol in each step, and its objects are in these states, by their numbers. Objects that aren't tracked stay in state 0
pub data Watched (p : LinkedProgram) (k : ProtocolParts) : (count : ℕ) → (s : State) → Run p count s → List ℕ → Type 0 where
  begins : {s : State} → (first : IsFirstState p s) → Watched p k zero s (Run.begins first) (replicate (length s.heap) 0)
  quiet : {count choice : ℕ} {s next : State} {run : Run p count s} {states : List ℕ} → Watched p k count s run states → (step : Step p s choice next)
      → ((event o : ℕ) → IsEvent p k step event o → ⊥) → Watched p k (suc count) next (Run.steps run step) (with_new states (length next.heap))
  event : {count choice : ℕ} {s next : State} {run : Run p count s} {states : List ℕ} {event o from to : ℕ} → Watched p k count s run states → (step : Step p s choice next)
      → IsEvent p k step event o → slice_get states o ≡ Some from → HasRow k from event to
      → Watched p k (suc count) next (Run.steps run step) (slice_set states o to)

-- a step of the run breaks the protocol: it is an event on an object in a state in which no row allows it. What the run does later doesn't matter
pub data IsBroken (p : LinkedProgram) (k : ProtocolParts) : (count : ℕ) → (s : State) → Run p count s → Type 0 where
  here : {count choice : ℕ} {s next : State} {run : Run p count s} {states : List ℕ} {event o from : ℕ} → Watched p k count s run states → (step : Step p s choice next)
      → IsEvent p k step event o → slice_get states o ≡ Some from → ((to : ℕ) → HasRow k from event to → ⊥) → IsBroken p k (suc count) next (Run.steps run step)
  before : {count choice : ℕ} {s next : State} {run : Run p count s} → IsBroken p k count s run → (step : Step p s choice next)
      → IsBroken p k (suc count) next (Run.steps run step)

-- no run, of any length, breaks the protocol
abbrev pub IsSafe : LinkedProgram → ProtocolParts → Type 0
IsSafe p k = (count : ℕ) (s : State) (run : Run p count s) → IsBroken p k count s run → ⊥
