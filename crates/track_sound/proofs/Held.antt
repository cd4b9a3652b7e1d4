-- What each watched state keeps: the states of the objects that slots hold.
use Rattle.std.proofs.Common.{◌≡◌, ℕ, ◌⊎◌, ◌++◌, List, [], ◌∷◌, Some, length, map, slice_get, refl, sym, subst, inl, inr}
use Rattle.lists.proofs.Joined.{last_one}
use Rattle.link_rules.specs.Linked.{LinkedProgram}
use Rattle.link_rules.specs.WellLinked.{HasTarget}
use Rattle.link_sites.specs.declared.place.Place.{Place}
use Rattle.run_sound.specs.Frames.{node_of, places_of}
use Rattle.spds_rules.specs.declared.node.Node.{Node}
use Rattle.spds_rules.specs.declared.node.Var.{Var}
use Rattle.spds_rules.specs.Demand.{Asked, Demand}
use Rattle.step_rules.specs.declared.parts.Slot.{Slot}
use Rattle.step_rules.specs.declared.parts.Value.TheVariants.{Object}
use Rattle.step_rules.specs.Slots.{slot_of}
use Rattle.step_rules.specs.States.{Frame, HeapObject, State, new_object, place_of}
use Rattle.run_origins.specs.Origins.{IsStoredStatic}
use Rattle.run_origins.specs.Standing.{StandsFor}
use Rattle.run_sound.proofs.Lists.{not_empty}
use Rattle.track_rules.specs.Protocols.{ProtocolParts}
use Rattle.track_runs.specs.Monitor.{IsTracked}
use Rattle.track_systems.specs.Events.{Goes}
use Rattle.track_systems.specs.Track.{Tracks}
use Rattle.track_systems.specs.Weights.{Anywhere, IsInside, May, Owns, Sends, Within, called, target}

-- an object without what was written into it
abbrev pub kind_of : HeapObject → HeapObject
kind_of object = new_object object.site object.class

abbrev pub kinds_of : List HeapObject → List HeapObject
kinds_of heap = map kind_of heap

-- what is at a place of the first list is there in the second
abbrev pub Extends : {X : Type 0} → List X → List X → Type 0
Extends {X} old new = (i : ℕ) (x : X) → slice_get old i ≡ Some x → slice_get new i ≡ Some x

module _ (p : LinkedProgram) (k : ProtocolParts) (q : Asked) where
  -- the object has a state, to which the system of its site leads at the node, under the string, if the object is tracked
  pub record IsHeld (kinds : List HeapObject) (states : List ℕ) (n : Node) (string : List Place) (x : ℕ) : Type 0 where
    pub kind : HeapObject
    pub is_kind : slice_get kinds x ≡ Some kind
    pub state : ℕ
    pub is_state : slice_get states x ≡ Some state
    pub tracks : IsTracked p k kind → Tracks p k q kind.site n string state

  -- so is each object that a slot of the frame holds
  abbrev pub AreHeld : List HeapObject → List ℕ → Frame → List Place → Type 0
  AreHeld kinds states f string = (from : Slot) (x : ℕ) → slot_of f from ≡ Some (Object x) → Demand p q (node_of f from)
      → IsHeld kinds states (node_of f from) string x

  -- the call at which the frame waits led a state of the object to its state now: first by itself, and then by what came inside
  pub record IsCrossed (now : List ℕ) (f : Frame) (x i : ℕ) (kind : HeapObject) : Type 0 where
    pub between : ℕ
    pub owns : (v : Var) → StandsFor p f x v → Owns p k q kind.site (place_of f) v i between
    pub state : ℕ
    pub is_state : slice_get now x ≡ Some state
    pub inside : Sends p k q kind.site (Within p (place_of f)) between state

  -- an object with its kind, if that is tracked
  pub record HasKind (kinds : List HeapObject) (x : ℕ) (Fact : HeapObject → Type 0) : Type 0 where
    pub kind : HeapObject
    pub is_kind : slice_get kinds x ≡ Some kind
    pub is_so : IsTracked p k kind → Fact kind

  abbrev pub AreCrossed : List HeapObject → List ℕ → List ℕ → Frame → Type 0
  AreCrossed kinds past now f = (x i : ℕ) → slice_get past x ≡ Some i → HasKind kinds x (IsCrossed now f x i)

  -- the frames that wait below one of a method, each with the states in which objects were before its call
  pub data Watches (kinds : List HeapObject) (now : List ℕ) : List Frame → List (List ℕ) → ℕ → Type 0 where
    none : {callee : ℕ} → Watches kinds now [] [] callee
    more : {below : List Frame} {pasts : List (List ℕ)} {f : Frame} {past : List ℕ} {callee : ℕ} → Watches kinds now below pasts f.method
        → HasTarget p f.method f.index callee → AreHeld kinds past f (places_of below) → AreCrossed kinds past now f
        → Watches kinds now (below ++ f ∷ []) (pasts ++ past ∷ []) callee

  -- any events that may come lead to the state of each object
  abbrev pub AreSent : List HeapObject → List ℕ → Type 0
  AreSent kinds states = (x i : ℕ) → slice_get states x ≡ Some i → HasKind kinds x (λ kind. Sends p k q kind.site Anywhere 0 i)

  -- the frames of a state that goes on
  pub record AreWatched (heap : List HeapObject) (states : List ℕ) (below : List Frame) (top : Frame) (pasts : List (List ℕ)) : Type 0 where
    pub waits : Watches (kinds_of heap) states below pasts top.method
    pub held : AreHeld (kinds_of heap) states top (places_of below)

  pub record IsWatched (s : State) (states : List ℕ) (pasts : List (List ℕ)) : Type 0 where
    pub frames : (s.frames ≡ []) ⊎ ((below : List Frame) × (top : Frame) × (s.frames ≡ below ++ top ∷ []) × AreWatched s.heap states below top pasts)
    pub as_many : length states ≡ length s.heap
    pub sent : AreSent (kinds_of s.heap) states
    pub statics : (field x : ℕ) → slice_get s.statics field ≡ Some (Object x) → IsStoredStatic p field

  -- ---- over more objects, and more states

  module _ (kinds more_kinds : List HeapObject) (grows : Extends kinds more_kinds) where
    pub held_more : (f : Frame) (states more_states : List ℕ) (string : List Place) → Extends states more_states → AreHeld kinds states f string
        → AreHeld more_kinds more_states f string
    held_more f states more_states string on held from x e d =
        let h = held from x e d in
        record { kind = h.kind; is_kind = grows x h.kind h.is_kind; state = h.state; is_state = on x h.state h.is_state; tracks = h.tracks }

    pub watches_more : {now : List ℕ} {fs : List Frame} {pasts : List (List ℕ)} {callee : ℕ} → (later : List ℕ) → Extends now later
        → Watches kinds now fs pasts callee
        → Watches more_kinds later fs pasts callee
    watches_more later on none = none
    watches_more later on (more {below} {pasts} {f} {past} {callee} watches at_target held crossed) =
        more (watches_more later on watches) at_target (held_more f past past (places_of below) (λ i x e. e) held) (λ x i e.
        let c = crossed x i e in
        record {
          kind = c.kind;
          is_kind = grows x c.kind c.is_kind;
          is_so = λ t.
              let h = c.is_so t in
              record { between = h.between; owns = h.owns; state = h.state; is_state = on x h.state h.is_state; inside = h.inside };
        })

  -- ---- over an event on one object, in the method of the frame on top

  -- the states where one may have changed by the event at the place
  abbrev pub Changes : List HeapObject → List ℕ → List ℕ → Place → Type 0
  Changes kinds now later c = (x i : ℕ) (kind : HeapObject) → slice_get now x ≡ Some i → slice_get kinds x ≡ Some kind → IsTracked p k kind
      → (slice_get later x ≡ Some i) ⊎ ((j : ℕ) × (slice_get later x ≡ Some j) × May p k q kind.site c × Goes p k c i j)

  pub watches_event : (kinds : List HeapObject) {now : List ℕ} {fs : List Frame} {pasts : List (List ℕ)} {callee : ℕ} → (later : List ℕ) (c : Place)
      → Changes kinds now later c → ((outer : Place) → IsInside p outer callee → IsInside p outer c.method)
      → Watches kinds now fs pasts callee
      → Watches kinds later fs pasts callee
  watches_event kinds later c changes within none = none
  watches_event kinds later c changes within (more {below} {pasts} {f} {past} {callee} watches at_target held crossed) =
      more (watches_event kinds later c changes (λ outer inside. within outer (called inside at_target)) watches) at_target held (λ x i e.
      let cross = crossed x i e in
      record {
        kind = cross.kind;
        is_kind = cross.is_kind;
        is_so = λ t.
            let h = cross.is_so t in
            elim (changes x h.state cross.kind h.is_state cross.is_kind t) [
              | inl same ↦ record { between = h.between; owns = h.owns; state = h.state; is_state = same; inside = h.inside }
              | inr changed ↦ record {
                between = h.between;
                owns = h.owns;
                state = changed.0;
                is_state = changed.1;
                inside = Sends.more h.inside (within (place_of f) (target at_target)) changed.2 changed.3;
              }
            ];
      })

  -- ---- the caller of the frame on top

  pub record HasPast (kinds : List HeapObject) (now : List ℕ) (below : List Frame) (caller : Frame) (pasts : List (List ℕ)) (callee : ℕ) : Type 0 where
    pub earlier : List (List ℕ)
    pub past : List ℕ
    pub is : pasts ≡ earlier ++ past ∷ []
    pub waits : Watches kinds now below earlier caller.method
    pub held : AreHeld kinds past caller (places_of below)
    pub crossed : AreCrossed kinds past now caller

  pub past_of : (kinds : List HeapObject) {now : List ℕ} {all : List Frame} {pasts : List (List ℕ)} {callee : ℕ} → Watches kinds now all pasts callee
      → (below : List Frame) (caller : Frame) → all ≡ below ++ caller ∷ []
      → HasPast kinds now below caller pasts callee
  past_of kinds none = λ below caller e. absurd (not_empty below caller (sym e))
  past_of kinds {now} (more {below = rest} {pasts} {f = last} {past} {callee} watches at_target held crossed) = λ below caller e.
      let parts = last_one rest below last caller e in
      subst (λ (f : Frame). HasPast kinds now below f (pasts ++ past ∷ []) callee) parts.1 (record {
        earlier = pasts;
        past = past;
        is = refl;
        waits = subst (λ (fs : List Frame). Watches kinds now fs pasts last.method) parts.0 watches;
        held = subst (λ (fs : List Frame). AreHeld kinds past last (places_of fs)) parts.0 held;
        crossed = crossed;
      })
