use Rattle.std.proofs.Common.{ℕ, List, slice_index_or, sym, subst, take, ◌∙◌}
use Rattle.std.proofs.lemmas.List.{take_all}
use Rattle.std.proofs.lemmas.Option.{slice_get-get_or}
use Rattle.lists.proofs.Places.{take-next}
use Rattle.site_events.specs.Events.{AreAtPlaces}
use Rattle.site_events.proofs.Used.{at_more, at_none, at_skip}
use Rattle.track_tables.proofs.starts.at_places.Goals as goal
use Rattle.track_tables.proofs.starts.at_places.Goals.{in-Some+in_ok-push, in_default}

pub loop-place-init : goal.loop-place-init
loop-place-init c = rw c.in_ok-found.ensures.items (at_none c.args.numbers.now)

pub loop-place-preserved : goal.loop-place-preserved
loop-place-preserved c =
    let places = c.args.places.now in
    let index = c.loop-place.place-index in
    let place = slice_index_or places index 0 in
    let there = slice_get-get_or places index 0 c.loop-place-test.true in
    elim c.match-number_at.branch [
      | in-Some+in_ok-push w ↦
          rw (w.found-is, w.in_ok-push.ensures.items, take-next places index place there)
          (at_more c.args.numbers.now (take index places) place c.loop-place.found.items w.in-Some.number (sym c.number_at.ensures ∙ w.in-Some.is) c.loop-place.invariant)
      | in_default w ↦
          rw (w.found-is, take-next places index place there)
          (at_skip c.args.numbers.now (take index places) place c.loop-place.found.items (λ x some. w.in_default.not-Some x (c.number_at.ensures ∙ some)) c.loop-place.invariant)
    ]

pub returns : goal.returns
returns c =
    subst (λ (places : List ℕ). AreAtPlaces c.args.numbers.now places c.loop-place.found.items) (take_all c.loop-place.place-index c.args.places.now c.loop-place-test.false) c.loop-place.invariant
