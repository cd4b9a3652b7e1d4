-- A step within a frame: what its slots hold then is held.
use Rattle.std.proofs.Common.{◌≡◌, ℕ, ◌<◌, Bool, true, false, List, Some, length, slice_get, refl, sym, ap, subst, inl, inr}
use Rattle.lists.proofs.Places.{slice_get-below, slice_get-push}
use Rattle.step_rules.proofs.Determined.{code_one}
use Rattle.link_laws.proofs.Lists.{map_at}
use Rattle.link_rules.specs.declared.code.Code.{Code}
use Rattle.link_rules.specs.Linked.{LinkedProgram}
use Rattle.link_sites.specs.declared.place.Place.{Place}
use Rattle.link_sites.specs.declared.site.Site.{Site}
use Rattle.link_sites.specs.Places.{CodeAt, HasCode}
use Rattle.spds_rules.specs.declared.edge.EdgeKind.TheVariants as edge_kind
use Rattle.spds_rules.specs.declared.node.Var.{Var}
use Rattle.spds_rules.specs.declared.node.Var.TheVariants as var
use Rattle.spds_rules.specs.Demand.{Asked, source}
use Rattle.spds_rules.specs.Edges.{FlowsIn, IsEdge, IsThrownBy}
use Rattle.spds_rules.specs.Nodes.{site_at, site_of}
use Rattle.spds_rules.specs.Systems.{IsString}
use Rattle.step_rules.specs.declared.parts.Slot.{Slot}
use Rattle.step_rules.specs.declared.parts.Value.TheVariants.{Object}
use Rattle.step_rules.specs.Effects.{Effect}
use Rattle.step_rules.specs.Slots.{local_of}
use Rattle.step_rules.specs.States.{Frame, Point, State, place_of, state_of}
use Rattle.run_sound.specs.Agrees.{Agrees}
use Rattle.run_sound.specs.Frames.{node_of, places_of, string_of, var_of}
use Rattle.run_sound.proofs.Invariant.{IsKept, IsShaped, IsTracked as IsTrackedFrame, sites_of}
use Rattle.run_sound.proofs.Nodes.{has_node}
use Rattle.run_sound.proofs.Simulating.{tracked_at}
use Rattle.run_origins.specs.Origins.{CameFrom, IsStoredStatic, IsWithin, flowed, loaded, made, static}
use Rattle.run_origins.specs.Standing.{StandsFor, node_at}
use Rattle.track_rules.specs.Protocols.{ProtocolParts}
use Rattle.track_systems.specs.Events.{IsReceiver, receiver_of}
use Rattle.track_systems.specs.Settled.{CallAt, IsSettled}
use Rattle.track_systems.specs.Track.{Tracks}
use Rattle.track_systems.specs.Track as track
use Rattle.track_systems.specs.Weights.{Across, Changes, InFlight, Sends}
use Rattle.track_systems.specs.Weights as weights
use Rattle.class_rules.proofs.Decided.{IsDecided}
use Rattle.step_rules.specs.Shapes.{IsCall}
use Rattle.track_sound.proofs.Calls.{call_at, call_decided, code_of, no_call_at, receiver_is}
use Rattle.track_sound.proofs.Held.{AreHeld, AreSent, Extends, IsHeld, kind_of, kinds_of}
use Rattle.track_sound.proofs.Passing.{not_passed, passed_or_not}
use Rattle.track_sound.proofs.Standing.{loaded_held, made_or_not, stands_held, stands_local, top_string}

module _ (p : LinkedProgram) (k : ProtocolParts) (q : Asked) (at : Point) (e : Effect) (next : State) (w : IsWithin p q.reach at e next)
    (shaped : IsShaped p at.top) where
  abbrev c : Place
  c = place_of at.top

  -- the statement
  top_code : CodeAt p at.top.method at.top.index shaped.code
  top_code = record { method = shaped.method; there = shaped.there; here = shaped.here }

  -- along a flow from anything, by what is so where a call stands
  by_call : (a : Site) (v : Var) (to : Slot) (i : ℕ) → ((call : CallAt p c) → Changes p k q a (node_at at.top v) (node_of w.g to) i i)
      → Changes p k q a (node_at at.top v) (node_of w.g to) i i
  by_call a v to i at_call_so = by at.top.raised refl
    where
      by_code : at.top.raised ≡ false → IsDecided (IsCall shaped.code) → Changes p k q a (node_at at.top v) (node_of w.g to) i i
      by_code is (inl so) = at_call_so (call_at p c shaped.code top_code so is)
      by_code is (inr fails) = weights.elsewhere (no_call_at p c shaped.code top_code fails)

      by : (r : Bool) → at.top.raised ≡ r → Changes p k q a (node_at at.top v) (node_of w.g to) i i
      by true is = weights.elsewhere (λ call. let unraised = call.unraised in cc (unraised, is))
      by false is = by_code is (call_decided shaped.code)

  module _ (a : Site) (x : ℕ) {v : Var} (stands : StandsFor p at.top x v) (to : Slot) (edge : IsEdge p q.reach (node_at at.top v) edge_kind.Flow (node_of w.g to))
      (i : ℕ) where
    module _ (call : CallAt p c) where
      -- the receiver is null
      receiver : ℕ
      receiver = (w.null (code_of p c call) call.here tt call.unraised).0.0

      is_receiver : call.receiver ≡ Some receiver
      unfolding receiver
      is_receiver = (w.null (code_of p c call) call.here tt call.unraised).0.1

      -- so what stands for an object isn't it
      not_receiver : IsReceiver p c v → ⊥
      unfolding receiver
      not_receiver is =
          let null = w.null (code_of p c call) call.here tt call.unraised in
          let one = receiver_is p c call v is in
          let two = null.0.1 in
          let same : null.0.0 ≡ is.0 = cc in
          let nothing = null.0.2 in
          let holds : local_of at.top null.0.0 ≡ Some (Object x) = subst (λ (n : ℕ). local_of at.top n ≡ Some (Object x)) (sym same) (stands_local p at.top x stands is.0 is.2) in
          cc (nothing, holds)

      across : Across p k q a c v i i
      across = record { between = i; owns = weights.other not_receiver; inside = weights.none }

      -- a local that is passed is then in flight
      in_flight_too : IsSettled call v → InFlight (node_at at.top v) (node_of w.g to)
      in_flight_too settled =
          let null = w.null (code_of p c call) call.here tt call.unraised in
          let row = edge.row in
          let is_local = settled.passes.1 in
          let same = code_one p at.top.method at.top.index row.code (code_of p c call) (record { method = row.method; there = row.there; here = row.here }) call.here in
          let raised = ap (λ (q : Place). q.raised) null.1 in
          let one = subst (λ (r : Bool). FlowsIn row.method row.code at.top.index r v w.g.index w.g.raised (var_of to)) call.unraised row.flows in
          let two : FlowsIn row.method row.code at.top.index false v w.g.index true (var_of to) =
          subst (λ (r : Bool). FlowsIn row.method row.code at.top.index false v w.g.index r (var_of to)) raised one in
          let is_var : var_of to ≡ v = elim two.1 [
            | inl kept ↦ kept.1
            | inr thrown ↦ absurd (subst (λ (u : Var). IsThrownBy (code_of p c call) u) is_local (subst (λ (d : Code). IsThrownBy d v) same thrown.0))
          ] in
          λ j. record { place = null.1 j; var = is_var j }

      at_call : Changes p k q a (node_at at.top v) (node_of w.g to) i i
      at_call = elim (passed_or_not call v) [
        | inl kept ↦ weights.kept call kept across
        | inr passed ↦ elim passed [
          | inl settled ↦
              let has : HasCode p c.method c.index (λ code. receiver_of code ≡ Some receiver) =
              record { code = code_of p c call; at = call.here; is_so = is_receiver } in
              weights.settled_null {receiver = var.Local receiver} call settled (in_flight_too settled) (receiver, has, refl)
              (λ same. not_receiver (receiver, has, same))
          | inr unsettled ↦ weights.unsettled call unsettled across
        ]
      ]

    -- what flows within a frame keeps its state
    pub flow_keeps : Changes p k q a (node_at at.top v) (node_of w.g to) i i
    flow_keeps = by_call a v to i at_call

  -- so does what has just been made
  made_keeps : (a : Site) (v : Var) → site_of (node_at at.top v) ≡ Some a → (to : Slot) (i : ℕ) → Changes p k q a (node_at at.top v) (node_of w.g to) i i
  made_keeps a v is_site to i = by_call a v to i (λ call. weights.kept call (not_passed call v not_local)
      (record { between = i; owns = weights.other (λ r. not_local r.0 r.2); inside = weights.none }))
    where
      not_local : (y : ℕ) → v ≡ var.Local y → ⊥
      not_local y is =
          let none : site_at c (var.Local y) ≡ Some a = subst (λ (v : Var). site_at c v ≡ Some a) is is_site in
          cc (none)

  module _ (kept : IsKept p q (state_of at)) (kept_next : IsKept p q next) (agrees : Agrees p (state_of at)) (states : List ℕ)
      (as_many : length states ≡ length at.heap) (sent : AreSent p k q (kinds_of at.heap) states)
      (held : AreHeld p k q (kinds_of at.heap) states at.top (places_of at.below))
      (statics : (field x : ℕ) → slice_get at.statics field ≡ Some (Object x) → IsStoredStatic p field)
      (grows : Extends (kinds_of at.heap) (kinds_of next.heap)) (later : List ℕ) (on : Extends states later) (many_later : length later ≡ length next.heap)
      (fresh : (x : ℕ) → x ≡ length at.heap → x < length next.heap → slice_get later x ≡ Some 0) (sent_later : AreSent p k q (kinds_of next.heap) later) where
    -- what the frame is then
    next_there : slice_get next.frames (length at.below) ≡ Some w.g
    next_there = subst (λ (fs : List Frame). slice_get fs (length at.below) ≡ Some w.g) (sym w.frames) (slice_get-push at.below w.g)

    tracked : IsTrackedFrame p q (sites_of next.heap) w.g (string_of next.frames (length at.below))
    tracked = tracked_at p q next kept_next (length at.below) w.g next_there

    g_string : IsString p w.g.method (places_of at.below)
    g_string = subst (λ (n : ℕ). IsString p n (places_of at.below)) (sym w.goes_on.method) (top_string p k q at agrees)

    pub within_held : AreHeld p k q (kinds_of next.heap) later w.g (places_of at.below)
    within_held to x h d = by (w.origins to x h)
      where
        by : CameFrom p q.reach at next (node_of w.g to) x → IsHeld p k q (kinds_of next.heap) later (node_of w.g to) (places_of at.below) x
        by (flowed {v} stands edge) =
            let from = stands_held p k q at states kept agrees as_many sent held x stands edge.from (source edge d) in
            record {
              kind = from.kind;
              is_kind = grows x from.kind from.is_kind;
              state = from.state;
              is_state = on x from.state from.is_state;
              tracks = λ t. track.flows (edge, d) (from.tracks t) (flow_keeps from.kind.site x stands to edge from.state);
            }
        by (made {v} is edge) =
            let from = source edge d in
            let string = top_string p k q at agrees in
            let start : Tracks p k q is.object.site (node_at at.top v) (places_of at.below) 0 = elim (made_or_not is.object.site) [
              | inl so ↦ track.fresh (is.start, from) so string
              | inr fails ↦ track.constant (is.start, from) fails string weights.none
            ] in
            record {
              kind = kind_of is.object;
              is_kind = map_at kind_of next.heap x is.object is.there;
              state = 0;
              is_state = fresh x is.last (slice_get-below next.heap x is.object is.there);
              tracks = λ t. track.flows (edge, d) start (made_keeps is.object.site v is.start.1 to 0);
            }
        by (loaded {base} {field} {o} holds held_there edge) =
            loaded_held p k q next.heap later many_later sent_later (node_at at.top (var.Local base)) (node_of w.g to) (edge_kind.Load field) (places_of at.below)
            (string_of next.frames (length at.below)) x (edge, d) tt (tracked.slots to x h d) g_string
        by (static {field} is from) =
            let stored = statics field x is in
            let edge : IsEdge p q.reach stored.n edge_kind.Jump (node_of w.g to) =
            record {
              from = stored.node;
              to = has_node p w.g tracked.shaped to (Object x) h;
              row = record { field = field; load = from.load; unraised = (stored.unraised, from.unraised); stores = stored.stores; loads = from.loads };
            } in
            loaded_held p k q next.heap later many_later sent_later stored.n (node_of w.g to) edge_kind.Jump (places_of at.below)
            (string_of next.frames (length at.below)) x (edge, d) tt (tracked.slots to x h d) g_string
