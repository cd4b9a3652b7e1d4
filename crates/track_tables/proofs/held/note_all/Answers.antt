use Rattle.std.proofs.Common.{◌≡◌, ◌↔◌, ◌<◌, ℕ, List, Some, eqb, ap, length, slice_get, slice_index_or, sym, subst, ◌∙◌, arith}
use Rattle.std.proofs.lemmas.Option.{slice_get-get_or}
use Rattle.lists.specs.Lists.{Has, IsApart}
use Rattle.lists.proofs.Places.{slice_get-below, slice_get-there, slice_get-read}
use Rattle.track_tables.specs.Held.{IsHeldAt}
use Rattle.track_tables.proofs.There.{held_there}
use Rattle.track_tables.proofs.Noting.{AreFirst, first_all, first_next, first_none}
use Rattle.track_tables.proofs.held.note_all.Goals as goal

pub loop-place-init : goal.loop-place-init
loop-place-init c = λ p q d site a solved of there. rw c.new-noted.ensures.items (first_none (IsHeldAt p q d a c.args.nodes.now))

pub loop-place-preserved : goal.loop-place-preserved
loop-place-preserved c = λ p q d site a solved of there.
    let nodes = c.args.nodes.now in
    let place = c.loop-place.place in
    let number = slice_index_or nodes place 0 in
    let here : slice_get nodes place ≡ Some number = slice_get-get_or nodes place 0 (omega (arith, c.loop-place-test.true, c.in_ok-place-end.ensures, c.loop-place.auto.place-end)) in
    let n = slice_get-there d.nodes number (of number (place, here)) in
    let held = c.in_ok-sites.ensures p q d n.0 site a solved n.1 there in
    rw (c.in_ok-note.ensures, c.keys.ensures.value)
    (first_next (IsHeldAt p q d a nodes) c.loop-place.noted.items c.in_ok-sites.sites.keys place site c.keys.ensures.apart
    (held_there p q d a nodes place number n.0 c.in_ok-sites.sites.keys site here n.1 held) (c.loop-place.invariant p q d site a solved of there))

pub returns : goal.returns
returns c = λ p q d site a solved of there.
    first_all (IsHeldAt p q d a c.args.nodes.now) c.loop-place.place _
    (λ i h. let below = slice_get-below c.args.nodes.now i h.number h.here in omega (arith, below, c.loop-place-test.false, c.in_ok-place-end.ensures, c.loop-place.auto.place-end))
    (c.loop-place.invariant p q d site a solved of there)
