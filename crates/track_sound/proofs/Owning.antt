-- What the call of a step does to the states of objects: the event, if it is one on the object, and else nothing.
use Rattle.std.proofs.Common.{◌≡◌, ℕ, Some, List, [], slice_get, refl, sym, ap, ◌∙◌, subst, inl, inr}
use Rattle.class_rules.proofs.Decided.{some_decided}
use Rattle.link_rules.specs.declared.code.Code.TheVariants as code
use Rattle.link_rules.specs.Linked.{LinkedProgram}
use Rattle.link_sites.specs.declared.place.Place.{Place}
use Rattle.link_sites.specs.declared.site.Site.{Site}
use Rattle.spds_rules.specs.declared.node.Var.{Var}
use Rattle.spds_rules.specs.declared.node.Var.TheVariants as var
use Rattle.spds_rules.specs.Answers.{IsAnswered}
use Rattle.spds_rules.specs.Demand.{Asked, Demand, Demanded}
use Rattle.spds_rules.specs.Nodes.{IsNode, at}
use Rattle.spds_rules.specs.Systems.{Calls, Fields}
use Rattle.step_rules.specs.declared.parts.Slot.TheVariants as slot
use Rattle.step_rules.specs.declared.parts.Value.TheVariants.{Object}
use Rattle.step_rules.specs.Slots.{local_of, slot_of}
use Rattle.step_rules.specs.States.{Frame, HeapObject, State, place_of}
use Rattle.step_rules.specs.Steps.{Step}
use Rattle.run_sound.proofs.Invariant.{AreSlots, IsReached, sites_of}
use Rattle.run_sound.proofs.Words.{site_there}
use Rattle.run_origins.specs.Origins.{IsEntry}
use Rattle.run_origins.specs.Standing.{StandsFor, node_at}
use Rattle.run_origins.specs.Standing as stands
use Rattle.track_rules.specs.Protocols.{HasRow, ProtocolParts}
use Rattle.track_runs.specs.Monitor.{IsEvent, IsTracked}
use Rattle.track_systems.specs.Events.{Goes, IsAskedBy, IsEventOn, IsReceiver}
use Rattle.track_systems.specs.Settled.{CallAt}
use Rattle.track_systems.specs.Weights.{May, Owns}
use Rattle.track_systems.specs.Weights as weights
use Rattle.track_sound.proofs.Calls.{receiver_is}

module _ (p : LinkedProgram) (k : ProtocolParts) (q : Asked) (asked : IsAskedBy p k q) {s next : State} {choice : ℕ} (step : Step p s choice next)
    (entry : IsEntry p q.reach step.at step.effect next) where
  -- the frame on top, and the place of the call
  abbrev f : Frame
  f = step.at.top

  abbrev c : Place
  c = place_of step.at.top

  -- the call
  abbrev call : CallAt p c
  call = record {
    unraised = entry.unraised;
    to = entry.target.to;
    mode = entry.target.mode;
    class = entry.target.class;
    key = entry.target.key;
    receiver = entry.target.receiver;
    args = entry.target.args;
    targets = entry.target.targets;
    here = record { method = entry.target.method; there = entry.target.there; here = entry.target.call };
  }

  -- an object of the heap before the step
  there_before : (o : ℕ) (object : HeapObject) → slice_get s.heap o ≡ Some object → slice_get step.at.heap o ≡ Some object
  there_before o object e = subst (λ (t : State). slice_get t.heap o ≡ Some object) step.stands e

  there_after : (o : ℕ) (object : HeapObject) → slice_get step.at.heap o ≡ Some object → slice_get s.heap o ≡ Some object
  there_after o object e = subst (λ (t : State). slice_get t.heap o ≡ Some object) (sym step.stands) e

  module _ (string : List Place) (slots : AreSlots p q (sites_of step.at.heap) step.at.top string) where
    -- the receiver of an event stands for its object, and its node is demanded
    pub record HasReceiver (event o : ℕ) (object : HeapObject) : Type 0 where
      pub v : Var
      pub is_event : IsEventOn p k c event v
      pub stands : StandsFor p f o v
      pub node : IsNode p (at c v)
      pub demanded : Demand p q (at c v)
      pub answered : IsAnswered p q (at c v) object.site

    reached_at : (o : ℕ) {v : Var} → StandsFor p f o v → (y : ℕ) → v ≡ var.Local y → Demand p q (node_at f v) → IsReached p q (sites_of step.at.heap) (node_at f v) string o
    reached_at o (stands.slot from e) = λ y is demanded. slots from o e demanded
    reached_at o (stands.text below e) = λ y is demanded. cc (is)
    reached_at o (stands.class below e) = λ y is demanded. cc (is)

    pub receiver_of_event : (event o : ℕ) (is : IsEvent p k step event o) → HasReceiver event o is.object
    receiver_of_event event o is =
        let one = is.entered in
        let two = entry.is_call in
        let same : is.frame ≡ entry.g = cc in
        let this : slot_of entry.g slot.This ≡ Some (Object o) = subst (λ (g : Frame). g.this ≡ Some (Object o)) same is.receiver in
        let origin = entry.origins slot.This o this in
        let v = origin.0 in
        let row = origin.2.row in
        let passes = row.passes in
        let receiver : IsReceiver p c v =
        (passes.0, record { code = code.Call row.target.to row.target.mode row.target.class row.target.key row.target.receiver row.target.args row.target.targets; at = record { method = row.target.method; there = row.target.there; here = row.target.call }; is_so = passes.1 }, passes.2) in
        let is_event : IsEventOn p k c event v = record { unraised = entry.unraised; statement = is.statement; receiver = receiver } in
        let demanded : Demand p q (at c v) = Demanded.target ((asked.receivers (at c v)).1 (event, is_event)) in
        let reached = reached_at o origin.1 passes.0 passes.2 demanded in
        let of_site = site_there step.at.heap o is.object (there_before o is.object is.there) in
        let of_site_too = reached.of_site in
        let site_same : reached.site ≡ is.object.site = cc in
        record {
          v = v;
          is_event = is_event;
          stands = origin.1;
          node = origin.2.from;
          demanded = demanded;
          answered = (
            subst (λ (a : Site). Fields p q a (at c v) []) site_same reached.by_fields,
            (string, subst (λ (a : Site). Calls p q a (at c v) string) site_same reached.by_calls),
          );
        }

    -- so the statement may be an event on objects of its site
    pub may_be : (event o : ℕ) (is : IsEvent p k step event o) → May p k q is.object.site c
    may_be event o is =
        let r = receiver_of_event event o is in record { event = event; receiver = r.v; is_event = r.is_event; answered = r.answered }

    -- and by its row it leads one state to another
    pub goes_by : (event o i j : ℕ) (is : IsEvent p k step event o) → HasRow k i event j → Goes p k c i j
    goes_by event o i j is row = let r = receiver_of_event event o is in (event, r.v, r.is_event, row)

  -- an object on which the step is no event
  module _ (x : ℕ) (object : HeapObject) (there : slice_get step.at.heap x ≡ Some object) (tracked : IsTracked p k object)
      (no_event : (event : ℕ) → IsEvent p k step event x → ⊥) (i : ℕ) where
    not_receiver : (v : Var) → ((y : ℕ) → v ≡ var.Local y → ⊥) → Owns p k q object.site c v i i
    not_receiver v not_local = weights.other (λ r. not_local r.0 r.2)

    of_local : (y : ℕ) → local_of f y ≡ Some (Object x) → Owns p k q object.site c (var.Local y) i i
    of_local y e = elim (some_decided entry.target.receiver y) [
      | inl is ↦ weights.never (λ may. no_event may.event (record {
        frame = entry.g;
        entered = entry.is_call;
        receiver = entry.passed y slot.This (Object x) (y, is, refl) e;
        object = object;
        there = there_after x object there;
        tracked = tracked;
        statement = may.is_event.statement;
      }))
      | inr fails ↦ weights.other (λ r.
          let is = receiver_is p c call (var.Local y) r in
          let same : y ≡ r.0 = (let e = r.2 in cc (e)) in
          fails (is ∙ ap Some (sym same)))
    ]

    pub owns_nothing : (v : Var) → StandsFor p f x v → Owns p k q object.site c v i i
    owns_nothing v (stands.slot (slot.Local y) e) = of_local y e
    owns_nothing v (stands.slot slot.This e) = not_receiver var.This (λ y is. cc (is))
    owns_nothing v (stands.slot (slot.Param n) e) = not_receiver (var.Param n) (λ y is. cc (is))
    owns_nothing v (stands.slot slot.Caught e) = not_receiver var.Caught (λ y is. cc (is))
    owns_nothing v (stands.slot slot.Thrown e) = not_receiver var.Thrown (λ y is. cc (is))
    owns_nothing v (stands.text {i = n} below e) = not_receiver (var.Text n) (λ y is. cc (is))
    owns_nothing v (stands.class {i = n} below e) = not_receiver (var.Class n) (λ y is. cc (is))
