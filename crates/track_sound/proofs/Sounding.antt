-- The systems of sites lie above the states of objects, and where nothing is found no run breaks the protocol.
use Rattle.std.proofs.Common.{◌≡◌, ℕ, ◌++◌, List, [], ◌∷◌, Some, length, slice_get, sym, ap, ◌∙◌, subst, inl, inr, arith}
use Rattle.lists.proofs.Places.{slice_get-append_left, slice_get-push, slice_get-pushed, slice_get-below}
use Rattle.link_laws.proofs.Lists.{map_at}
use Rattle.link_laws.proofs.Whole.{links_well}
use Rattle.run_covers.proofs.Whole.{links_covered}
use Rattle.link_rules.specs.Linked.{LinkedProgram}
use Rattle.link_rules.specs.WellLinked.{IsWellLinked}
use Rattle.link_sites.specs.declared.place.Place.{Place}
use Rattle.run_covers.specs.Covers.{IsCovered}
use Rattle.spds_rules.specs.Demand.{Asked}
use Rattle.step_rules.specs.Runs.{Run}
use Rattle.step_rules.specs.States.{Frame, HeapObject, State, place_of}
use Rattle.run_sound.specs.Frames.{node_of, places_of, string_of}
use Rattle.run_sound.proofs.Waiting.{string_below, string_top}
use Rattle.track_rules.specs.Protocols.{ProtocolParts}
use Rattle.track_runs.specs.Monitor.{IsBroken, IsTracked, before, here}
use Rattle.track_systems.specs.Events.{IsAskedBy}
use Rattle.track_systems.specs.Findings.{HasNoFinding}
use Rattle.track_systems.specs.Track.{Tracks}
use Rattle.track_systems.specs.Weights.{Anywhere, Sends}
use Rattle.track_systems.proofs.Few.{tracks_few}
use Rattle.track_systems.proofs.Leading.{values_leading}
use Rattle.weight_laws.proofs.Meaning.{meaning}
use Rattle.track_sound.specs.Recalled.{recalled}
use Rattle.track_sound.specs.Sound.{AreAllSent, HasAllSent, HasValuesAbove, HasWeightsAbove, IsAbove, IsAboveRuns, IsSafeWithoutFindings, LinksAreTrackSound}
use Rattle.track_sound.proofs.Held.{AreHeld, IsWatched, kind_of, kinds_of}
use Rattle.track_sound.proofs.Recalling.{as_many_pasts, recalled_at}
use Rattle.track_sound.proofs.Watching.{found, watched_run}

module _ (p : LinkedProgram) (k : ProtocolParts) (q : Asked) where
  -- what is held, by the objects of the heap
  above_of : (heap : List HeapObject) (states : List ℕ) (f : Frame) (string : List Place) → AreHeld p k q (kinds_of heap) states f string
      → IsAbove p k q heap states f string
  above_of heap states f string held from o object e there tracked demanded =
      let h = held from o e demanded in
      let one = h.is_kind in
      let two = map_at kind_of heap o object there in
      let same : h.kind ≡ kind_of object = cc in
      (h.state, h.is_state, subst (λ (kind : HeapObject). IsTracked p k kind → Tracks p k q kind.site (node_of f from) string h.state) same h.tracks tracked)

  module _ (asked : IsAskedBy p k q) (well : IsWellLinked p) (covered : IsCovered p) where
    above_runs : IsAboveRuns p k q
    above_runs count s run states watched number frame e = elim is.frames [
      | inl gone ↦ let nowhere : slice_get [] number ≡ Some frame = subst (λ (fs : List Frame). slice_get fs number ≡ Some frame) gone e in cc (nowhere)
      | inr some ↦
          let below = some.0 in
          let top = some.1 in
          let e_there : slice_get (below ++ top ∷ []) number ≡ Some frame = subst (λ (fs : List Frame). slice_get fs number ≡ Some frame) some.2 e in
          let strings : string_of (below ++ top ∷ []) number ≡ string_of s.frames number = ap (λ (fs : List Frame). string_of fs number) (sym some.2) in
          elim (slice_get-pushed below top number frame e_there) [
            | inl earlier ↦
                let r = recalled_at p k q (kinds_of s.heap) some.3.waits number frame earlier in
                let string : string_of below number ≡ string_of s.frames number =
                sym (string_below below top number (omega (arith, slice_get-below below number frame earlier))) ∙ strings in (
                  r.past,
                  slice_get-append_left (recalled watched) (states ∷ []) number r.past r.there,
                  subst (IsAbove p k q s.heap r.past frame) string (above_of s.heap r.past frame (string_of below number) r.held),
                )
            | inr last ↦
                let many = as_many_pasts p k q (kinds_of s.heap) some.3.waits in
                let at : length (recalled watched) ≡ number = many ∙ sym last.0 in
                let string : places_of below ≡ string_of s.frames number = sym (string_top below top) ∙ ap (string_of (below ++ top ∷ [])) (sym last.0) ∙ strings in (
                  states,
                  subst (λ (n : ℕ). slice_get (recalled watched ++ states ∷ []) n ≡ Some states) at (slice_get-push (recalled watched) states),
                  subst (λ (f : Frame). IsAbove p k q s.heap states f (string_of s.frames number)) (sym last.1)
                      (subst (IsAbove p k q s.heap states top) string (above_of s.heap states top (places_of below) some.3.held)),
                )
          ]
    ] where
      is : IsWatched p k q s states (recalled watched)
      is = watched_run p k q asked well covered watched

    all_sent : AreAllSent p k q
    all_sent count s run states watched o state object there tracked e =
        let h = (watched_run p k q asked well covered watched).sent o state e in
        let one = h.is_kind in
        let two = map_at kind_of s.heap o object there in
        let same : h.kind ≡ kind_of object = cc in
        subst (λ (kind : HeapObject). IsTracked p k kind → Sends p k q kind.site Anywhere 0 state) same h.is_so tracked

    -- a step that breaks the protocol is found
    nothing_breaks : HasNoFinding p k q → {count : ℕ} {s : State} {run : Run p count s} → IsBroken p k count s run → ⊥
    nothing_breaks none (here {s} {next} {run} {states} {event} {o} {from} watched step is is_from no_row) =
        none is.object.site (place_of step.at.top) event from
        (found p k q asked well covered run step states (recalled watched) (watched_run p k q asked well covered watched) event o is from is_from no_row)
    nothing_breaks none (before broken step) = nothing_breaks none broken

pub values_are_above : (p : LinkedProgram) → IsWellLinked p → IsCovered p → HasValuesAbove p
values_are_above p well covered k q asked = above_runs p k q asked well covered

-- so each value leads there
pub weights_are_above : (p : LinkedProgram) → IsWellLinked p → IsCovered p → HasWeightsAbove p
weights_are_above p well covered k q few asked count s run states watched number frame e =
    let is = above_runs p k q asked well covered count s run states watched number frame e in (
      is.0,
      is.1,
      λ from o object value holds there tracked demanded is_value.
          let h = is.2 from o object holds there tracked demanded in
          let low = tracks_few p k q object.site few h.2 in
          (h.0, h.1, (values_leading meaning p k q object.site (node_of frame from) (string_of s.frames number) value h.0 few low is_value).1 h.2),
    )

pub all_are_sent : (p : LinkedProgram) → IsWellLinked p → IsCovered p → HasAllSent p
all_are_sent p well covered k q asked = all_sent p k q asked well covered

pub safe_where_nothing_found : (p : LinkedProgram) → IsWellLinked p → IsCovered p → IsSafeWithoutFindings p
safe_where_nothing_found p well covered k q asked nothing count s run broken = nothing_breaks p k q asked well covered nothing broken

-- so it is in what linking gives
pub links_sound : LinksAreTrackSound
links_sound input prelude entry p read read_prelude nine links =
    let well = links_well input prelude entry p read read_prelude nine links in
    let covered = links_covered input prelude entry p read read_prelude nine links in
    record { slots = values_are_above p well covered; weights = weights_are_above p well covered; all = all_are_sent p well covered; safe = safe_where_nothing_found p well covered }
