use Rattle.std.proofs.Common.{◌≡◌, ℕ, List, ap, slice_get, slice_index_or, sym, subst, take, ◌∙◌}
use Rattle.std.proofs.lemmas.List.{take_all}
use Rattle.std.proofs.lemmas.Option.{slice_get-get_or}
use Rattle.lists.proofs.Places.{take-next}
use Rattle.lists.specs.declared.groups.Keyed.{Keyed}
use Rattle.site_events.specs.declared.statement.Statement.{Statement}
use Rattle.site_events.specs.Events.{AreAtPlaces}
use Rattle.site_events.proofs.Used.{at_more, at_skip}
use Rattle.site_events.proofs.events.Events.at_all.Goals as goal
use Rattle.site_events.proofs.events.Events.at_all.Goals.{in-Some+in_ok-push, in_default}

pub loop-place-preserved : goal.loop-place-preserved
loop-place-preserved c =
    let places = c.args.places.now in
    let index = c.loop-place.place-index in
    let place = slice_index_or places index 0 in
    let there = slice_get-get_or places index 0 c.loop-place-test.true in
    let read : c.use_at.result ≡ slice_get c.args.self.now.uses.items place = c.use_at.ensures ∙ ap (λ (xs : List (Keyed ℕ Statement)). slice_get xs place) c.deref.ensures.value in
    elim c.match-use_at.branch [
      | in-Some+in_ok-push w ↦
          rw (w.found-is, w.in_ok-push.ensures.items, take-next places index place there)
          (at_more c.args.self.now.uses.items (take index places) place c.loop-place.found.items w.in-Some.each (sym read ∙ w.in-Some.is) c.loop-place.invariant)
      | in_default w ↦
          rw (w.found-is, take-next places index place there)
          (at_skip c.args.self.now.uses.items (take index places) place c.loop-place.found.items (λ u some. w.in_default.not-Some u (read ∙ some)) c.loop-place.invariant)
    ]

pub returns : goal.returns
returns c =
    subst (λ (places : List ℕ). AreAtPlaces c.args.self.now.uses.items places c.loop-place.found.items) (take_all c.loop-place.place-index c.args.places.now c.loop-place-test.false) c.loop-place.invariant
