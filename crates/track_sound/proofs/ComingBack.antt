-- A step back to the frame below: what its slots hold then is held.
use Rattle.std.proofs.Common.{◌≡◌, ℕ, ◌⊎◌, ◌++◌, Bool, false, true, List, [], ◌∷◌, Option, Some, length, slice_get, refl, sym, ap, ◌∙◌, subst, inl, inr}
use Rattle.step_rules.proofs.Determined.{code_one}
use Rattle.link_laws.proofs.Lists.{at_map}
use Rattle.link_rules.specs.declared.code.Arg.{Arg}
use Rattle.link_rules.specs.declared.code.Code.{Code}
use Rattle.link_rules.specs.declared.code.Code.TheVariants as code
use Rattle.link_rules.specs.Linked.{LinkedProgram}
use Rattle.link_rules.specs.Flow.{IsReturn}
use Rattle.link_sites.specs.declared.place.Place.{Place}
use Rattle.spds_rules.specs.declared.edge.EdgeKind.TheVariants as edge_kind
use Rattle.spds_rules.specs.declared.node.Var.{Var}
use Rattle.spds_rules.specs.declared.node.Var.TheVariants as var
use Rattle.spds_rules.specs.declared.reach.Reach.{Reach}
use Rattle.spds_rules.specs.Demand.{Asked, Demand, source}
use Rattle.spds_rules.specs.Edges.{FlowsIn, IsBack, IsBackByReturn, IsBackInFlight, IsBackIn, IsEdge, Leaves, Passes}
use Rattle.spds_rules.specs.Formals.{formal}
use Rattle.step_rules.specs.declared.parts.Slot.{Slot}
use Rattle.step_rules.specs.declared.parts.Slot.TheVariants as slot
use Rattle.step_rules.specs.declared.parts.Value.TheVariants.{Object}
use Rattle.step_rules.specs.Effects.{Effect}
use Rattle.step_rules.specs.Runs.{Run}
use Rattle.step_rules.specs.Slots.{slot_of}
use Rattle.step_rules.specs.States.{Frame, HeapObject, Point, State, place_of, state_of}
use Rattle.run_sound.specs.Agrees.{Agrees}
use Rattle.run_sound.specs.Frames.{node_of, places_of, var_of}
use Rattle.run_sound.proofs.Invariant.{IsKept, IsShaped}
use Rattle.run_sound.proofs.Nodes.{has_node}
use Rattle.run_origins.specs.Origins.{IsWayBack, LeavesBy, exception, return}
use Rattle.run_origins.specs.Standing.{StandsFor, node_at}
use Rattle.run_origins.specs.Standing as stands
use Rattle.track_rules.specs.Protocols.{ProtocolParts}
use Rattle.track_runs.specs.Monitor.{IsTracked}
use Rattle.track_systems.specs.Events.{IsAskedBy}
use Rattle.track_systems.specs.Settled.{CallAt, IsSettled, is_identity, is_settled}
use Rattle.track_systems.specs.Track.{Tracks}
use Rattle.track_systems.specs.Track as track
use Rattle.track_systems.specs.Weights.{Across}
use Rattle.track_systems.specs.Weights as weights
use Rattle.track_sound.specs.Formals.{HoldsFormals, IsBehind}
use Rattle.track_sound.proofs.Calls.{code_of}
use Rattle.track_sound.proofs.Entering.{places_pushed}
use Rattle.track_sound.proofs.Held.{AreSent, AreWatched, Extends, HasPast, IsCrossed, IsHeld, Watches, kind_of, kinds_of, past_of, watches_more}
use Rattle.track_sound.proofs.Passing.{passed_or_not}
use Rattle.track_sound.proofs.Standing.{stands_held, stands_local, state_there}

-- a return is no identity
return_is_none : (c : Code) → IsReturn c → is_identity c ≡ false
return_is_none (code.Return a) h = refl
return_is_none (code.This to) h = absurd h
return_is_none (code.Param to number) h = absurd h
return_is_none (code.Caught to) h = absurd h
return_is_none _ h = refl

-- the slot of a position
slot_of_position : (receiver : Option ℕ) (args : List Arg) (v w : Var) → Passes receiver args v w → (s : Slot) × (var_of s ≡ w)
slot_of_position receiver args v var.This passes = (slot.This, refl)
slot_of_position receiver args v (var.Param i) passes = (slot.Param i, refl)
slot_of_position receiver args v _ passes = absurd passes

module _ (p : LinkedProgram) (k : ProtocolParts) (q : Asked) (asked : IsAskedBy p k q) (formals : HoldsFormals p) {count : ℕ} (at : Point)
    (run : Run p count (state_of at)) (e : Effect) (next : State) (b : IsWayBack p q.reach at e next) (shaped : IsShaped p at.top)
    (kept : IsKept p q (state_of at)) (agrees : Agrees p (state_of at)) (states : List ℕ) (as_many : length states ≡ length at.heap)
    (sent : AreSent p k q (kinds_of at.heap) states) (pasts : List (List ℕ)) (watched : AreWatched p k q at.heap states at.below at.top pasts)
    (grows : Extends (kinds_of at.heap) (kinds_of next.heap)) (later : List ℕ) (on : Extends states later) where
  -- the place of the call
  abbrev c : Place
  c = place_of b.caller

  abbrev call : CallAt p c
  call = record {
    unraised = b.unraised;
    to = b.target.to;
    mode = b.target.mode;
    class = b.target.class;
    key = b.target.key;
    receiver = b.target.receiver;
    args = b.target.args;
    targets = b.target.targets;
    here = record { method = b.target.method; there = b.target.there; here = b.target.call };
  }

  -- what is known of the caller
  pub past : HasPast p k q (kinds_of at.heap) states b.below b.caller pasts at.top.method
  past = past_of p k q (kinds_of at.heap) watched.waits b.below b.caller b.under

  -- the string of the frame on top
  top_string_is : places_of at.below ≡ c ∷ places_of b.below
  top_string_is = ap places_of b.under ∙ places_pushed b.below b.caller

  -- the frame on top may be left where it stands
  behind : IsBehind p at.top
  behind = by b.way
    where
      by : LeavesBy p at.top b.caller b.g → IsBehind p at.top
      by (return unraised returned place) = inr (returned.code, returned.at, return_is_none returned.code returned.is_so)
      by (exception raised place) = inl raised

  -- ---- what the caller held

  module _ (to : Slot) (x : ℕ) (held_e : slot_of b.caller to ≡ Some (Object x)) (edge : IsEdge p q.reach (node_of b.caller to) edge_kind.Flow (node_of b.g to))
      (d : Demand p q (node_of b.g to)) where
    -- a settled formal holds it, and a back edge leads from there
    module _ (settled : IsSettled call (var_of to)) where
      y : ℕ
      y = settled.passes.0

      is_local : var_of to ≡ var.Local y
      unfolding y
      is_local = settled.passes.1

      passes : Passes b.target.receiver b.target.args (var.Local y) settled.position
      unfolding y
      passes = subst (λ (v : Var). Passes b.target.receiver b.target.args v settled.position) settled.passes.1 settled.passes.2

      -- the slot of the position
      position : (s : Slot) × (var_of s ≡ settled.position)
      position = slot_of_position b.target.receiver b.target.args (var.Local y) settled.position passes

      is_settled_here : is_settled shaped.method.code settled.position ≡ true
      is_settled_here = settled.all settled.position shaped.method (record { passes = settled.passes; target = at.top.method; has = b.target.has; there = shaped.there })

      -- the formal's slot
      formal_held : (held : Slot) × (var_of held ≡ formal shaped.method.code (var_of position.0)) × (slot_of at.top held ≡ Some (Object x))
      formal_held =
          formals count (state_of at) b.below b.caller at.top shaped.method y position.0 (Object x) run (ap (λ (fs : List Frame). fs ++ at.top ∷ []) b.under)
          shaped.there behind b.target
          (subst (λ (w : Var). Passes b.target.receiver b.target.args (var.Local y) w) (sym position.1) passes)
          (subst (λ (w : Var). is_settled shaped.method.code w ≡ true) (sym position.1) is_settled_here)
          (stands_local p b.caller x (stands.slot to held_e) y is_local)

      -- the local isn't the one that the call assigns, where it returns
      comes : IsBackByReturn p (node_of at.top formal_held.0) c b.target.to y (node_of b.g to) ⊎ IsBackInFlight (node_of at.top formal_held.0) c (node_of b.g to)
      comes = by b.way
        where
          by : LeavesBy p at.top b.caller b.g
              → IsBackByReturn p (node_of at.top formal_held.0) c b.target.to y (node_of b.g to) ⊎ IsBackInFlight (node_of at.top formal_held.0) c (node_of b.g to)
          by (exception raised place) = inr (record { raised = raised; at_call = place })
          by (return unraised returned place) =
              let row = edge.row in
              let same = code_one p b.caller.method b.caller.index row.code (code_of p c call) (record { method = row.method; there = row.there; here = row.here }) call.here in
              let r = ap (λ (q : Place). q.raised) place in
              let one = subst (λ (s : Bool). FlowsIn row.method row.code b.caller.index s (var_of to) b.g.index b.g.raised (var_of to)) b.unraised row.flows in
              let two : FlowsIn row.method row.code b.caller.index false (var_of to) b.g.index false (var_of to) =
              subst (λ (s : Bool). FlowsIn row.method row.code b.caller.index false (var_of to) b.g.index s (var_of to)) r one in
              let three : FlowsIn row.method (code_of p c call) b.caller.index false (var_of to) b.g.index false (var_of to) =
              subst (λ (code : Code). FlowsIn row.method code b.caller.index false (var_of to) b.g.index false (var_of to)) same two in
              let leaves : Leaves (code_of p c call) (var_of to) = elim three.1 [ inl kept ↦ kept.0 | inr assigned ↦ absurd assigned ] in
              inl (record { returned = returned; unraised = unraised; goes_on = place; left = subst (λ (v : Var). Leaves (code_of p c call) v) is_local leaves })

      back : IsBack p (node_of at.top formal_held.0) c (node_of b.g to)
      back = record {
        unraised = b.unraised;
        target = b.target;
        local = y;
        is_local = is_local;
        position = settled.position;
        passes = passes;
        has_formal = record {
          method = shaped.method;
          there = shaped.there;
          is = formal_held.1 ∙ ap (formal shaped.method.code) position.1;
        };
        comes = comes;
      }

      back_edge : IsEdge p q.reach (node_of at.top formal_held.0) (edge_kind.Return c) (node_of b.g to)
      back_edge = record {
        from = has_node p at.top shaped formal_held.0 (Object x) formal_held.2;
        to = edge.to;
        row = inr (subst (λ (r : Reach). IsBackIn p r (node_of at.top formal_held.0) c (node_of b.g to)) (sym asked.tracked) back);
      }

    -- so the system leads to its state now
    came_back : IsHeld p k q (kinds_of next.heap) later (node_of b.g to) (places_of b.below) x
    came_back =
        let object = at_map kind_of at.heap x h.kind h.is_kind in
        let has = state_there p k q at.heap states as_many sent x object.0 object.1 in
        record {
          kind = h.kind;
          is_kind = grows x h.kind h.is_kind;
          state = has.state;
          is_state = on x has.state has.is_state;
          tracks = by_state has.state has.is_state;
        }
      where
        h : IsHeld p k q (kinds_of at.heap) past.past (node_of b.caller to) (places_of b.below) x
        h = past.held to x held_e (source edge d)

        crossed : IsTracked p k h.kind → IsCrossed p k q states b.caller x h.state h.kind
        crossed t =
            let cross = past.crossed x h.state h.is_state in
            let one = cross.is_kind in
            let two = h.is_kind in
            let same : cross.kind ≡ h.kind = cc in
            subst (λ (kind : HeapObject). IsTracked p k kind → IsCrossed p k q states b.caller x h.state kind) same cross.is_so t

        by_state : (state : ℕ) → slice_get states x ≡ Some state → IsTracked p k h.kind → Tracks p k q h.kind.site (node_of b.g to) (places_of b.below) state
        by_state state is_state t =
            let c_crossed = crossed t in
            let now = c_crossed.is_state in
            let same_state : c_crossed.state ≡ state = cc in
            let across : Across p k q h.kind.site c (var_of to) h.state state = record {
              between = c_crossed.between;
              owns = c_crossed.owns (var_of to) (stands.slot to held_e);
              inside = subst (λ (s : ℕ). weights.Sends p k q h.kind.site (weights.Within p c) c_crossed.between s) same_state c_crossed.inside;
            } in
            elim (passed_or_not call (var_of to)) [
              | inl kept ↦ track.flows (edge, d) (h.tracks t) (weights.kept call kept across)
              | inr passed ↦ elim passed [
                | inr unsettled ↦ track.flows (edge, d) (h.tracks t) (weights.unsettled call unsettled across)
                | inl settled ↦
                    let from = watched.held (formal_held settled).0 x (formal_held settled).2 (source (back_edge settled) d) in
                    let one = from.is_kind in
                    let two = h.is_kind in
                    let same : from.kind ≡ h.kind = cc in
                    let three = from.is_state in
                    let same_now : from.state ≡ state = cc in
                    let there : Tracks p k q h.kind.site (node_of at.top (formal_held settled).0) (places_of at.below) from.state =
                    subst (λ (kind : HeapObject). IsTracked p k kind → Tracks p k q kind.site (node_of at.top (formal_held settled).0) (places_of at.below) from.state) same from.tracks t in
                    let there_now = subst (λ (s : ℕ). Tracks p k q h.kind.site (node_of at.top (formal_held settled).0) (places_of at.below) s) same_now there in
                    track.leaves (back_edge settled, d)
                    (subst (λ (string : List Place). Tracks p k q h.kind.site (node_of at.top (formal_held settled).0) string state) top_string_is there_now)
              ]
            ]

  -- ---- the frame below

  pub back_watched : AreWatched p k q next.heap later b.below b.g past.earlier
  back_watched = record {
    waits = watches_more p k q (kinds_of at.heap) (kinds_of next.heap) grows later on (subst (λ (n : ℕ). Watches p k q (kinds_of at.heap) states b.below past.earlier n) (sym b.goes_on.method) past.waits);
    held = λ to x h d. elim (b.origins to x h) [
      | inl kept ↦ came_back to x kept.0 kept.1 d
      | inr gave ↦
          let edge = gave.2 in
          let from = stands_held p k q at states kept agrees as_many sent watched.held x gave.1 edge.from (source edge d) in
          record {
            kind = from.kind;
            is_kind = grows x from.kind from.is_kind;
            state = from.state;
            is_state = on x from.state from.is_state;
            tracks = λ t. track.leaves (edge, d)
                (subst (λ (string : List Place). Tracks p k q from.kind.site (node_at at.top gave.0) string from.state) top_string_is (from.tracks t));
          }
    ];
  }
