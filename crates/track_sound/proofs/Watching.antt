-- Each watched state of a run keeps that what its slots hold is held.
use Rattle.std.proofs.Common.{◌≡◌, ◌≢◌, ℕ, ◌+◌, ◌<◌, ◌≤◌, ◌⊎◌, ◌++◌, List, [], ◌∷◌, Some, None, length, length-append, replicate, slice_get, sym, ap, ◌∙◌, subst, inl, inr, arith}
use Rattle.std.specs.List.{slice_set}
use Rattle.std.proofs.lemmas.Bool.Decides.{eqb_tells}
use Rattle.std.proofs.lemmas.List.{length-replicate, length-set}
use Rattle.lists.proofs.Places.{slice_get-below, slice_get-push, slice_get-set_other, slice_get-set_same, slice_get-there}
use Rattle.lists.proofs.Joined.{last_one}
use Rattle.link_laws.proofs.Lists.{at_map, map_at}
use Rattle.link_rules.specs.Linked.{LinkedProgram}
use Rattle.link_rules.specs.WellLinked.{IsWellLinked}
use Rattle.run_covers.specs.Covers.{IsCovered}
use Rattle.spds_rules.specs.Demand.{Asked}
use Rattle.step_rules.specs.declared.parts.Slot.{Slot}
use Rattle.step_rules.specs.declared.parts.Slot.TheVariants as slot
use Rattle.step_rules.specs.declared.parts.Value.TheVariants.{Object}
use Rattle.step_rules.specs.Runs.{IsFirstState, Run}
use Rattle.step_rules.specs.Slots.{slot_of}
use Rattle.step_rules.specs.States.{Frame, HeapObject, Point, State, new_frame, place_of, state_of}
use Rattle.step_rules.specs.Steps.{Step}
use Rattle.run_sound.specs.Agrees.{Agrees}
use Rattle.run_sound.specs.Frames.{places_of, string_of}
use Rattle.run_sound.proofs.Calling.{unset}
use Rattle.run_sound.proofs.Invariant.{AreSlots, IsKept, IsShaped, sites_of}
use Rattle.run_sound.proofs.Lists.{not_empty, slice_get-slice_set}
use Rattle.run_sound.proofs.Simulating.{kept_run, runs_agree, tracked_at}
use Rattle.run_origins.specs.Origins.{IsEntry, IsStoredStatic, KeepsObjects, Origins, ends, entry, way_back, within}
use Rattle.run_origins.specs.Standing.{node_at}
use Rattle.run_origins.proofs.Machine.{steps_originate}
use Rattle.track_rules.specs.Protocols.{HasRow, ProtocolParts}
use Rattle.track_runs.specs.Monitor.{IsEvent, IsTracked, Watched, with_new}
use Rattle.track_runs.specs.Monitor as monitor
use Rattle.track_runs.proofs.Growing.{call_keeps, heap_grows}
use Rattle.track_systems.specs.Events.{Goes, IsAskedBy}
use Rattle.track_systems.specs.Findings.{IsFinding}
use Rattle.track_systems.specs.Track.{Tracks}
use Rattle.track_systems.specs.Weights.{Anywhere, May, Owns, Sends}
use Rattle.track_systems.specs.Weights as weights
use Rattle.track_sound.specs.Recalled.{recalled, recalled_over}
use Rattle.track_sound.proofs.ComingBack.{back_watched, past}
use Rattle.track_sound.proofs.Entering.{HasAfter, entry_watched}
use Rattle.track_sound.proofs.Going.{within_held}
use Rattle.track_sound.proofs.Held.{AreSent, AreWatched, Changes, Extends, IsWatched, Watches, kind_of, kinds_of, none, watches_event, watches_more}
use Rattle.track_sound.proofs.Holding.{formals_held}
use Rattle.track_sound.proofs.Later.{kinds_grow, new_fresh, new_on, new_sent, replicated_zero}
use Rattle.track_sound.proofs.Owning.{goes_by, may_be, owns_nothing, receiver_of_event}
use Rattle.track_sound.proofs.Standing.{stands_held}
use Rattle.track_sound.proofs.Recalling.{as_many_pasts, recalled_back, recalled_more, recalled_same}
use Rattle.track_runs.proofs.Watching.{with_new_many}
use Rattle.run_sound.proofs.Beginning.{no_object}

module _ (p : LinkedProgram) (k : ProtocolParts) (q : Asked) (asked : IsAskedBy p k q) (well : IsWellLinked p) (covered : IsCovered p) where
  module _ {count choice : ℕ} {s next : State} (run : Run p count s) (step : Step p s choice next) (states : List ℕ) (pasts : List (List ℕ))
      (watched : IsWatched p k q s states pasts) where
    abbrev at : Point
    at = step.at

    run_at : Run p count (state_of at)
    run_at = subst (Run p count) step.stands run

    kept : IsKept p q (state_of at)
    kept = kept_run p q well covered run_at

    kept_next : IsKept p q next
    kept_next = kept_run p q well covered (Run.steps run step)

    agrees_at : Agrees p (state_of at)
    agrees_at = runs_agree p well covered count (state_of at) run_at

    origin : Origins p q.reach at step.effect next
    origin = (steps_originate p well covered q.reach count choice s next run step).0

    keeps : KeepsObjects p at next
    keeps = (steps_originate p well covered q.reach count choice s next run step).1

    grows : Extends (kinds_of at.heap) (kinds_of next.heap)
    grows = kinds_grow p at next keeps

    -- what is known at the point
    there : IsWatched p k q (state_of at) states pasts
    there = subst (λ (t : State). IsWatched p k q t states pasts) step.stands watched

    pub at_point : AreWatched p k q at.heap states at.below at.top pasts
    at_point = elim there.frames [
      | inl gone ↦ absurd (not_empty at.below at.top gone)
      | inr some ↦
          let parts = last_one at.below some.0 at.top some.1 some.2 in
          subst (λ (top : Frame). AreWatched p k q at.heap states at.below top pasts) (sym parts.1)
          (subst (λ (below : List Frame). AreWatched p k q at.heap states below some.1 pasts) (sym parts.0) some.3)
    ]

    statics : (field x : ℕ) → slice_get next.statics field ≡ Some (Object x) → IsStoredStatic p field
    statics field x e = elim (keeps.statics field x e) [ inl old ↦ there.statics field x old | inr stored ↦ stored ]

    shaped : IsShaped p at.top
    shaped = (tracked_at p q (state_of at) kept (length at.below) at.top (slice_get-push at.below at.top)).shaped

    slots : AreSlots p q (sites_of at.heap) at.top (string_of (state_of at).frames (length at.below))
    slots = (tracked_at p q (state_of at) kept (length at.below) at.top (slice_get-push at.below at.top)).slots

    many_frames : length s.frames ≡ length pasts + 1
    many_frames =
        let frames : length s.frames ≡ length (at.below ++ at.top ∷ []) = ap (λ (t : State). length t.frames) step.stands in
        omega (arith, frames, length-append at.below (at.top ∷ []), as_many_pasts p k q (kinds_of at.heap) at_point.waits)

    many_next : (below : List Frame) (g : Frame) → next.frames ≡ below ++ g ∷ [] → length next.frames ≡ length below + 1
    many_next below g frames = omega (arith, ap (λ (fs : List Frame). length fs) frames, length-append below (g ∷ []))

    -- what is recalled then
    abbrev later_pasts : List (List ℕ)
    later_pasts = recalled_over (length s.frames) (length next.frames) states pasts

    -- the frames after the step
    abbrev NextFrames : List ℕ → Type 0
    NextFrames later = (next.frames ≡ []) ⊎ ((below : List Frame) × (top : Frame) × (next.frames ≡ below ++ top ∷ []) × AreWatched p k q next.heap later below top later_pasts)

    -- into a method
    entered : (n : IsEntry p q.reach at step.effect next) (later : List ℕ)
        → ((x i : ℕ) (kind : HeapObject) → slice_get states x ≡ Some i → slice_get (kinds_of at.heap) x ≡ Some kind → HasAfter p k q at step.effect next n later x i kind)
        → Watches p k q (kinds_of next.heap) later at.below pasts at.top.method → NextFrames later
    entered n later after waits =
        let is = entry_watched p k q at step.effect next n kept agrees_at states there.as_many there.sent at_point.held grows later after pasts waits in
        let more : length s.frames < length next.frames =
        omega (arith, ap (λ (t : State). length t.frames) step.stands, length-append at.below (at.top ∷ []), many_next (at.below ++ at.top ∷ []) n.g n.frames) in
        inr (
          at.below ++ at.top ∷ [],
          n.g,
          n.frames,
          subst (AreWatched p k q next.heap later (at.below ++ at.top ∷ []) n.g) (sym (recalled_more (length s.frames) (length next.frames) states pasts more)) is,
        )

    -- an object by its kind
    by_kind : (x : ℕ) (kind : HeapObject) → slice_get (kinds_of at.heap) x ≡ Some kind
        → (object : HeapObject) × (slice_get at.heap x ≡ Some object) × (kind ≡ kind_of object)
    by_kind x kind e = at_map kind_of at.heap x kind e

    -- an object on which the step is no event
    untouched : (n : IsEntry p q.reach at step.effect next) (later : List ℕ) (x i : ℕ) (kind : HeapObject) → slice_get (kinds_of at.heap) x ≡ Some kind
        → slice_get later x ≡ Some i → ((event : ℕ) → IsEvent p k step event x → ⊥)
        → HasAfter p k q at step.effect next n later x i kind
    untouched n later x i kind is_kind is_state no_event =
        let object = by_kind x kind is_kind in
        record {
          state = i;
          is_state = is_state;
          owns = λ t v stands. subst (λ (o : HeapObject). Owns p k q o.site (place_of at.top) v i i) (sym object.2)
              (owns_nothing p k q asked step n x object.0 object.1 (subst (λ (o : HeapObject). IsTracked p k o) object.2 t) no_event i v stands);
        }

    -- ---- an event enters a method

    module _ (event o : ℕ) (is : IsEvent p k step event o) where
      is_entry : Origins p q.reach at step.effect next → IsEntry p q.reach at step.effect next
      is_entry (within w) = absurd (w.no_call is.frame is.entered)
      is_entry (entry n) = n
      is_entry (way_back b) = absurd (b.no_call is.frame is.entered)
      is_entry (ends gone no_call) = absurd (no_call is.frame is.entered)

      event_entry : IsEntry p q.reach at step.effect next
      event_entry = is_entry origin

      object_at : slice_get at.heap o ≡ Some is.object
      object_at = subst (λ (t : State). slice_get t.heap o ≡ Some is.object) step.stands is.there

      kind_at : slice_get (kinds_of at.heap) o ≡ Some (kind_of is.object)
      kind_at = map_at kind_of at.heap o is.object object_at

      -- one that no row allows is found
      pub found : (from : ℕ) → slice_get states o ≡ Some from → ((to : ℕ) → HasRow k from event to → ⊥)
          → IsFinding p k q is.object.site (place_of at.top) event from
      found from is_from no_row =
          let r = receiver_of_event p k q asked step event_entry (string_of (state_of at).frames (length at.below)) slots event o is in
          let held = stands_held p k q at states kept agrees_at there.as_many there.sent at_point.held o r.stands r.node r.demanded in
          let one = held.is_kind in
          let two = kind_at in
          let kind_same : held.kind ≡ kind_of is.object = cc in
          let three = held.is_state in
          let state_same : held.state ≡ from = cc in
          let tracks = subst (λ (kind : HeapObject). IsTracked p k kind → Tracks p k q kind.site (node_at at.top r.v) (places_of at.below) held.state) kind_same held.tracks is.tracked in
          record {
            tracked = record { no_array = is.tracked.0; class = is.object.class; of_class = (kept.memory.objects o is.object object_at).class; below = is.tracked.1 };
            receiver = r.v;
            is_event = r.is_event;
            answered = r.answered;
            string = places_of at.below;
            tracks = subst (λ (j : ℕ). Tracks p k q is.object.site (node_at at.top r.v) (places_of at.below) j) state_same tracks;
            no_row = no_row;
          }

    -- ---- a step that is no event

    module _ (no_event : (event o : ℕ) → IsEvent p k step event o → ⊥) where
      abbrev later : List ℕ
      later = with_new states (length next.heap)

      few : length states ≤ length next.heap
      few = omega (arith, there.as_many, heap_grows p s next choice step, ap (λ (t : State). length t.heap) step.stands)

      many_later : length later ≡ length next.heap
      many_later = with_new_many states (length next.heap) few

      sent_later : AreSent p k q (kinds_of next.heap) later
      sent_later = new_sent p k q at.heap next.heap states grows few there.sent

      by_origin : Origins p q.reach at step.effect next → NextFrames later
      by_origin (within w) =
          let same = recalled_same (length s.frames) (length next.frames) states pasts many_frames
          (omega (arith, many_next at.below w.g w.frames, as_many_pasts p k q (kinds_of at.heap) at_point.waits)) in
          inr (
            at.below,
            w.g,
            w.frames,
            subst (AreWatched p k q next.heap later at.below w.g) (sym same) (record {
              waits = watches_more p k q (kinds_of at.heap) (kinds_of next.heap) grows later (new_on states (length next.heap))
                  (subst (λ (n : ℕ). Watches p k q (kinds_of at.heap) states at.below pasts n) (sym w.goes_on.method) at_point.waits);
              held = within_held p k q at step.effect next w shaped kept kept_next agrees_at states there.as_many there.sent at_point.held there.statics grows later
                  (new_on states (length next.heap)) many_later
                  (λ x is below. new_fresh states (length next.heap) x (is ∙ sym there.as_many) below) sent_later;
            }),
          )
      by_origin (entry n) = entered n later (λ x i kind e is_kind. untouched n later x i kind is_kind (new_on states (length next.heap) x i e) (λ event is. no_event event x is))
          (watches_more p k q (kinds_of at.heap) (kinds_of next.heap) grows later (new_on states (length next.heap)) at_point.waits)
      by_origin (way_back b) =
          let before_it = past p k q asked (formals_held p well covered) at run_at step.effect next b shaped kept agrees_at states there.as_many there.sent pasts at_point grows later (new_on states (length next.heap)) in
          let is = back_watched p k q asked (formals_held p well covered) at run_at step.effect next b shaped kept agrees_at states there.as_many there.sent pasts at_point grows later (new_on states (length next.heap)) in
          let earlier_many = as_many_pasts p k q (kinds_of at.heap) before_it.waits in
          let pasts_many : length pasts ≡ length before_it.earlier + 1 =
          omega (arith, ap (λ (xs : List (List ℕ)). length xs) before_it.is, length-append before_it.earlier (before_it.past ∷ [])) in
          let back = recalled_back (length s.frames) (length next.frames) states before_it.past before_it.earlier (omega (arith, many_frames, pasts_many))
          (omega (arith, many_next b.below b.g b.frames, earlier_many)) in
          let same : later_pasts ≡ before_it.earlier = ap (λ (xs : List (List ℕ)). recalled_over (length s.frames) (length next.frames) states xs) before_it.is ∙ back in
          inr (b.below, b.g, b.frames, subst (AreWatched p k q next.heap later b.below b.g) (sym same) is)
      by_origin (ends gone no_call) = inl gone

      pub quiet_watched : IsWatched p k q next later later_pasts
      quiet_watched = record { frames = by_origin origin; as_many = many_later; sent = sent_later; statics = statics }

    -- ---- an event

    module _ (event o from to : ℕ) (is : IsEvent p k step event o) (is_from : slice_get states o ≡ Some from) (row : HasRow k from event to) where
      abbrev then : List ℕ
      then = slice_set states o to

      then_many : length then ≡ length next.heap
      then_many = length-set states o to ∙ there.as_many ∙ ap (λ (t : State). length t.heap) (sym step.stands) ∙ sym (call_keeps p s next choice step is.frame is.entered)

      module _ (n : IsEntry p q.reach at step.effect next) where
        may : May p k q is.object.site (place_of at.top)
        may = may_be p k q asked step n (string_of (state_of at).frames (length at.below)) slots event o is

        goes : Goes p k (place_of at.top) from to
        goes = goes_by p k q asked step n (string_of (state_of at).frames (length at.below)) slots event o from to is row

        -- no other object is its receiver
        only_this : (x : ℕ) → x ≢ o → (other : ℕ) → IsEvent p k step other x → ⊥
        only_this x apart other is_too =
            let one = is.entered in
            let two = is_too.entered in
            let same : is.frame ≡ is_too.frame = cc in
            let first : is_too.frame.this ≡ Some (Object o) = subst (λ (f : Frame). f.this ≡ Some (Object o)) same is.receiver in
            let second = is_too.receiver in
            let equal : x ≡ o = cc in
            apart equal

        after : (x i : ℕ) (kind : HeapObject) → slice_get states x ≡ Some i → slice_get (kinds_of at.heap) x ≡ Some kind
            → HasAfter p k q at step.effect next n then x i kind
        after x i kind e is_kind = elim (eqb_tells x o) [
          | inl same ↦
              let e_o : slice_get states o ≡ Some i = subst (λ (y : ℕ). slice_get states y ≡ Some i) same.1 e in
              let i_is : i ≡ from = cc in
              let kind_o : slice_get (kinds_of at.heap) o ≡ Some kind = subst (λ (y : ℕ). slice_get (kinds_of at.heap) y ≡ Some kind) same.1 is_kind in
              let known = kind_at event o is in
              let kind_is : kind ≡ kind_of is.object = cc in
              record {
                state = to;
                is_state = subst (λ (y : ℕ). slice_get then y ≡ Some to) (sym same.1) (slice_get-set_same states o to (slice_get-below states o from is_from));
                owns = λ t v stands. subst (λ (kind : HeapObject). Owns p k q kind.site (place_of at.top) v i to) (sym kind_is)
                    (subst (λ (j : ℕ). Owns p k q is.object.site (place_of at.top) v j to) (sym i_is) (weights.event may goes));
              }
          | inr other ↦ untouched n then x i kind is_kind (slice_get-set_other states o x to other.1 ∙ e) (λ event_too is_too. only_this x other.1 event_too is_too)
        ]

        changes : Changes p k q (kinds_of at.heap) states then (place_of at.top)
        changes x i kind e is_kind t = elim (eqb_tells x o) [
          | inl same ↦
              let e_o : slice_get states o ≡ Some i = subst (λ (y : ℕ). slice_get states y ≡ Some i) same.1 e in
              let i_is : i ≡ from = cc in
              let kind_o : slice_get (kinds_of at.heap) o ≡ Some kind = subst (λ (y : ℕ). slice_get (kinds_of at.heap) y ≡ Some kind) same.1 is_kind in
              let known = kind_at event o is in
              let kind_is : kind ≡ kind_of is.object = cc in
              inr (
                to,
                subst (λ (y : ℕ). slice_get then y ≡ Some to) (sym same.1) (slice_get-set_same states o to (slice_get-below states o from is_from)),
                subst (λ (kind : HeapObject). May p k q kind.site (place_of at.top)) (sym kind_is) may,
                subst (λ (j : ℕ). Goes p k (place_of at.top) j to) (sym i_is) goes,
              )
          | inr other ↦ inl (slice_get-set_other states o x to other.1 ∙ e)
        ]

        frames_then : NextFrames then
        frames_then = entered n then after
            (watches_more p k q (kinds_of at.heap) (kinds_of next.heap) grows then (λ i x e. e)
            (watches_event p k q (kinds_of at.heap) then (place_of at.top) changes (λ outer inside. inside) at_point.waits))

        sent_then : AreSent p k q (kinds_of next.heap) then
        sent_then x i e = elim (slice_get-slice_set states o x to i e) [
          | inl set ↦ record {
            kind = kind_of is.object;
            is_kind = subst (λ (y : ℕ). slice_get (kinds_of next.heap) y ≡ Some (kind_of is.object)) (sym set.0) (grows o (kind_of is.object) (kind_at event o is));
            is_so = λ t.
                let h = there.sent o from is_from in
                let one = h.is_kind in
                let two = kind_at event o is in
                let same : h.kind ≡ kind_of is.object = cc in
                let sent = subst (λ (kind : HeapObject). IsTracked p k kind → Sends p k q kind.site Anywhere 0 from) same h.is_so t in
                subst (λ (j : ℕ). Sends p k q is.object.site Anywhere 0 j) (sym set.1) (weights.more sent tt may goes);
          }
          | inr old ↦ let h = there.sent x i old in record { kind = h.kind; is_kind = grows x h.kind h.is_kind; is_so = h.is_so }
        ]

      pub event_watched : IsWatched p k q next then later_pasts
      event_watched = record { frames = frames_then (event_entry event o is); as_many = then_many; sent = sent_then (event_entry event o is); statics = statics }

  -- ---- the first state

  first_watched : (s : State) → IsFirstState p s → IsWatched p k q s (replicate (length s.heap) 0) []
  first_watched s first = record {
    frames = inr ([], new_frame first.number first.root None [], ap (λ (t : State). t.frames) first.is_state, record { waits = none; held = λ from x e d. absurd (empty from x e) });
    as_many = length-replicate (length s.heap) 0;
    sent = λ x i e.
        let is = replicated_zero (length s.heap) x i e in
        let below : x < length s.heap = omega (arith, slice_get-below (replicate (length s.heap) 0) x i e, length-replicate {A = ℕ} (length s.heap) 0) in
        let object = slice_get-there s.heap x below in
        record {
          kind = kind_of object.0;
          is_kind = map_at kind_of s.heap x object.0 object.1;
          is_so = λ t. subst (λ (j : ℕ). Sends p k q object.0.site Anywhere 0 j) (sym is) weights.none;
        };
    statics = λ field x e. absurd (no_object p.static_count field x (subst (λ (t : State). slice_get t.statics field ≡ Some (Object x)) first.is_state e));
  } where
    empty : (from : Slot) (x : ℕ) → slot_of (new_frame first.number first.root None []) from ≡ Some (Object x) → ⊥
    empty (slot.Local y) x e = unset (length first.root.locals) y (Object x) e
    empty slot.This x e = cc (e)
    empty (slot.Param i) x e = cc (e)
    empty slot.Caught x e = cc (e)
    empty slot.Thrown x e = cc (e)

  -- each watched state
  pub watched_run : {count : ℕ} {s : State} {run : Run p count s} {states : List ℕ} (w : Watched p k count s run states) → IsWatched p k q s states (recalled w)
  watched_run (monitor.begins {s} first) = first_watched s first
  watched_run (monitor.quiet {s} {next} {run} {states} w step no_event) = quiet_watched run step states (recalled w) (watched_run w) no_event
  watched_run (monitor.event {s} {next} {run} {states} {event} {o} {from} {to} w step is is_from row) =
      event_watched run step states (recalled w) (watched_run w) event o from to is is_from row
