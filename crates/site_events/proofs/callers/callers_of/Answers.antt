use Rattle.std.proofs.Common.{◌≡◌, [], ℕ, List, slice_index_or, subst}
use Rattle.std.proofs.lemmas.List.{take_all}
use Rattle.std.proofs.lemmas.Option.{slice_get-get_or}
use Rattle.link_indexes.specs.declared.method.Place.{Place}
use Rattle.lists.proofs.Places.{take-next}
use Rattle.site_events.proofs.Calling.{AreAdded, added_more, added_none, callers_all}
use Rattle.site_events.proofs.callers.callers_of.Goals as goal

pub loop-caller-init : goal.loop-caller-init
loop-caller-init c = rw c.new-found.ensures (added_none (λ (x : Place). x.method) [])

pub loop-caller-preserved : goal.loop-caller-preserved
loop-caller-preserved c =
    let items = c.callers-caller-items.result.now in
    let index = c.loop-caller.caller-index in
    let none : Place = record { method = 0; index = 0 } in
    let x = slice_index_or items index none in
    rw (take-next items index x (slice_get-get_or items index none c.loop-caller-test.true))
    (added_more (λ (m : Place). m.method) [] c.loop-caller.found.keys c.add.new.self.keys _ x c.loop-caller.invariant c.in_ok-add.ensures.keys)

pub returns : goal.returns
returns c =
    let items = c.callers-caller-items.result.now in
    let all = take_all c.loop-caller.caller-index items c.loop-caller-test.false in
    callers_all c.args.linked.now c.args.target items c.loop-caller.found.keys c.callers-caller-items.ensures.each
    (subst (λ (list : List Place). AreAdded (λ (x : Place). x.method) [] list c.loop-caller.found.keys) all c.loop-caller.invariant)
