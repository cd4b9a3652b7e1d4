-- A step into a method: the caller waits, and what the new frame holds is held.
use Rattle.std.proofs.Common.{◌≡◌, ℕ, ◌++◌, List, [], ◌∷◌, Some, length, slice_get, sym, subst}
use Rattle.std.proofs.lemmas.List.{map-append, reverse-append}
use Rattle.link_rules.specs.Linked.{LinkedProgram}
use Rattle.link_sites.specs.declared.place.Place.{Place}
use Rattle.spds_rules.specs.declared.node.Var.{Var}
use Rattle.spds_rules.specs.Demand.{Asked, source}
use Rattle.step_rules.specs.Effects.{Effect}
use Rattle.step_rules.specs.States.{Frame, HeapObject, Point, State, place_of, state_of}
use Rattle.run_sound.specs.Agrees.{Agrees}
use Rattle.run_sound.specs.Frames.{node_of, places_of}
use Rattle.run_sound.proofs.Invariant.{IsKept}
use Rattle.run_origins.specs.Origins.{IsEntry}
use Rattle.run_origins.specs.Standing.{StandsFor}
use Rattle.track_rules.specs.Protocols.{ProtocolParts}
use Rattle.track_runs.specs.Monitor.{IsTracked}
use Rattle.track_systems.specs.Track.{Tracks}
use Rattle.track_systems.specs.Track as track
use Rattle.track_systems.specs.Weights.{Owns}
use Rattle.track_systems.specs.Weights as weights
use Rattle.track_sound.proofs.Held.{AreHeld, AreSent, AreWatched, Extends, Watches, held_more, kinds_of, more}
use Rattle.track_sound.proofs.Standing.{stands_held}

-- the places of frames, the last first
pub places_pushed : (fs : List Frame) (f : Frame) → places_of (fs ++ f ∷ []) ≡ place_of f ∷ places_of fs
places_pushed fs f = rw (map-append, reverse-append)

module _ (p : LinkedProgram) (k : ProtocolParts) (q : Asked) (at : Point) (e : Effect) (next : State) (n : IsEntry p q.reach at e next) where
  -- the state of an object after the call's event, to which the call leads by itself
  pub record HasAfter (later : List ℕ) (x i : ℕ) (kind : HeapObject) : Type 0 where
    pub state : ℕ
    pub is_state : slice_get later x ≡ Some state
    pub owns : IsTracked p k kind → (v : Var) → StandsFor p at.top x v → Owns p k q kind.site (place_of at.top) v i state

  module _ (kept : IsKept p q (state_of at)) (agrees : Agrees p (state_of at)) (states : List ℕ) (as_many : length states ≡ length at.heap)
      (sent : AreSent p k q (kinds_of at.heap) states) (held : AreHeld p k q (kinds_of at.heap) states at.top (places_of at.below))
      (grows : Extends (kinds_of at.heap) (kinds_of next.heap)) (later : List ℕ)
      (after : (x i : ℕ) (kind : HeapObject) → slice_get states x ≡ Some i → slice_get (kinds_of at.heap) x ≡ Some kind → HasAfter later x i kind)
      (pasts : List (List ℕ)) (waits : Watches p k q (kinds_of next.heap) later at.below pasts at.top.method) where
    pub entry_watched : AreWatched p k q next.heap later (at.below ++ at.top ∷ []) n.g (pasts ++ states ∷ [])
    entry_watched = record {
      waits = more waits n.target
          (held_more p k q (kinds_of at.heap) (kinds_of next.heap) grows at.top states states (places_of at.below) (λ i x e. e) held) (λ x i e.
          let h = sent x i e in
          let a = after x i h.kind e h.is_kind in
          record {
            kind = h.kind;
            is_kind = grows x h.kind h.is_kind;
            is_so = λ t. record { between = a.state; owns = a.owns t; state = a.state; is_state = a.is_state; inside = weights.none };
          });
      held = λ to x h d.
          let o = n.origins to x h in
          let edge = o.2 in
          let from = stands_held p k q at states kept agrees as_many sent held x o.1 edge.from (source edge d) in
          let a = after x from.state from.kind from.is_state from.is_kind in
          record {
            kind = from.kind;
            is_kind = grows x from.kind from.is_kind;
            state = a.state;
            is_state = a.is_state;
            tracks = λ t. subst (λ (string : List Place). Tracks p k q from.kind.site (node_of n.g to) string a.state) (sym (places_pushed at.below at.top))
                (track.enters (edge, d) (from.tracks t) (a.owns t o.0 o.1));
          };
    }
