-- What the systems of sites say of runs.
use Rattle.std.specs.Prelude.{◌≡◌, ℕ, ◌++◌, List, [], ◌∷◌, Some, slice_get}
use Rattle.jim_ast.specs.declared.syntax.Program.{Program}
use Rattle.link_rules.specs.Conditions.{DeclaresNine, IsRead}
use Rattle.link_rules.specs.Linked.{LinkedProgram, Links}
use Rattle.link_sites.specs.declared.place.Place.{Place}
use Rattle.spds_rules.specs.Demand.{Asked, Demand}
use Rattle.step_rules.specs.declared.parts.Slot.{Slot}
use Rattle.step_rules.specs.declared.parts.Value.TheVariants.{Object}
use Rattle.step_rules.specs.Runs.{Run}
use Rattle.step_rules.specs.Slots.{slot_of}
use Rattle.step_rules.specs.States.{Frame, HeapObject, State}
use Rattle.run_sound.specs.Frames.{node_of, string_of}
use Rattle.track_rules.specs.Protocols.{ProtocolParts}
use Rattle.track_runs.specs.Monitor.{IsSafe, IsTracked, Watched}
use Rattle.track_systems.specs.Events.{IsAskedBy}
use Rattle.track_systems.specs.Findings.{HasNoFinding}
use Rattle.track_systems.specs.Laws.{IsAmongSixteen}
use Rattle.track_systems.specs.Track.{Tracks}
use Rattle.track_systems.specs.Values.{IsValueAt}
use Rattle.track_systems.specs.Weights.{Anywhere, Sends}
use Rattle.weight_laws.specs.declared.rel.Rel.{Rel}
use Rattle.weight_laws.specs.Rel.{Relates}
use Rattle.track_sound.specs.Recalled.{recalled}

-- each tracked object that a slot of the frame holds has one of these states, and the system of its site leads to this state at the slot's node, under the
-- string, where the node is demanded
abbrev pub IsAbove : LinkedProgram → ProtocolParts → Asked → List HeapObject → List ℕ → Frame → List Place → Type 0
IsAbove p k q heap states frame string = (from : Slot) (o : ℕ) (object : HeapObject) → slot_of frame from ≡ Some (Object o)
    → slice_get heap o ≡ Some object → IsTracked p k object → Demand p q (node_of frame from)
    → (state : ℕ) × (slice_get states o ≡ Some state) × Tracks p k q object.site (node_of frame from) string state

-- In each run that has met the protocol so far: at the frame on top, with the states in which objects are, and at each frame that waits, with those in
-- which they were before the event of its call.
abbrev pub IsAboveRuns : LinkedProgram → ProtocolParts → Asked → Type 0
IsAboveRuns p k q = (count : ℕ) (s : State) (run : Run p count s) (states : List ℕ) (watched : Watched p k count s run states) (number : ℕ) (frame : Frame)
    → slice_get s.frames number ≡ Some frame
    → (then : List ℕ) × (slice_get (recalled watched ++ states ∷ []) number ≡ Some then) × IsAbove p k q s.heap then frame (string_of s.frames number)

-- and any events that may come on objects of a site lead to the state of each tracked object of the site, whether something holds it or not
abbrev pub AreAllSent : LinkedProgram → ProtocolParts → Asked → Type 0
AreAllSent p k q = (count : ℕ) (s : State) (run : Run p count s) (states : List ℕ) → Watched p k count s run states → (o state : ℕ) (object : HeapObject)
    → slice_get s.heap o ≡ Some object → IsTracked p k object → slice_get states o ≡ Some state
    → Sends p k q object.site Anywhere 0 state

-- so it is for each protocol, whose event statements are asked for
abbrev pub HasValuesAbove : LinkedProgram → Type 0
HasValuesAbove p = (k : ProtocolParts) (q : Asked) → IsAskedBy p k q → IsAboveRuns p k q

abbrev pub HasAllSent : LinkedProgram → Type 0
HasAllSent p = (k : ProtocolParts) (q : Asked) → IsAskedBy p k q → AreAllSent p k q

-- So each value lies above: that of the slot's node and the frame's string, as one of the weighted pushdown system, leads state 0 to the object's state.
abbrev pub IsWeighedAbove : LinkedProgram → ProtocolParts → Asked → List HeapObject → List ℕ → Frame → List Place → Type 0
IsWeighedAbove p k q heap states frame string = (from : Slot) (o : ℕ) (object : HeapObject) (value : Rel) → slot_of frame from ≡ Some (Object o)
    → slice_get heap o ≡ Some object → IsTracked p k object → Demand p q (node_of frame from)
    → IsValueAt p k q object.site (node_of frame from) string value
    → (state : ℕ) × (slice_get states o ≡ Some state) × Relates value 0 state

abbrev pub HasWeightsAbove : LinkedProgram → Type 0
HasWeightsAbove p = (k : ProtocolParts) (q : Asked) → IsAmongSixteen k → IsAskedBy p k q → (count : ℕ) (s : State) (run : Run p count s) (states : List ℕ)
    (watched : Watched p k count s run states) (number : ℕ) (frame : Frame) → slice_get s.frames number ≡ Some frame
    → (then : List ℕ) × (slice_get (recalled watched ++ states ∷ []) number ≡ Some then)
    × IsWeighedAbove p k q s.heap then frame (string_of s.frames number)

-- and where nothing is found, no run, of any length, breaks the protocol
abbrev pub IsSafeWithoutFindings : LinkedProgram → Type 0
IsSafeWithoutFindings p = (k : ProtocolParts) (q : Asked) → IsAskedBy p k q → HasNoFinding p k q → IsSafe p k

-- all of this
pub record IsTrackSound (p : LinkedProgram) : Type 0 where
  pub slots : HasValuesAbove p
  pub weights : HasWeightsAbove p
  pub all : HasAllSent p
  pub safe : IsSafeWithoutFindings p

-- so it is in the linked program of an input and a prelude as they are read, of which the prelude declares the nine classes
abbrev pub LinksAreTrackSound : Type 0
LinksAreTrackSound = (input prelude : Program) (entry : List ℕ) (p : LinkedProgram) → IsRead input → IsRead prelude → DeclaresNine prelude
    → Links input prelude entry p → IsTrackSound p
