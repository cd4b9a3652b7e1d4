use Rattle.std.proofs.Common.{◌≡◌, ◌<◌, ℕ, List, Some, get_or, slice_get, slice_index_or, sym, subst, take, ◌∙◌}
use Rattle.std.specs.List.{AllPairs}
use Rattle.std.proofs.lemmas.Option.{slice_get-get_or}
use Rattle.lists.specs.Lists.{Has}
use Rattle.spds_rules.specs.Answers.{IsAnswered}
use Rattle.site_events.specs.EventStatements.{receiver_node}
use Rattle.type_track.specs.declared.receivers.Receiver.{Receiver}
use Rattle.type_track.proofs.Posing.{at_held, held_at}
use Rattle.type_track.proofs.Searching.{among_all, among_next, among_none}
use Rattle.type_track.proofs.search.add_all_at.Goals as goal
use Rattle.type_track.proofs.search.add_all_at.Goals.{in-Some+in_ok-add_at, in_default}

pub loop-place-init : goal.loop-place-init
loop-place-init c = λ q a is.
    let s = c.args.search.now in
    among_none s.given.linked.now s.protocol.now q a s.receivers.now c.at-place-items.result.now c.args.findings.now.items

pub loop-place-preserved : goal.loop-place-preserved
loop-place-preserved c = λ q a is.
    let s = c.args.search.now in
    let places = c.at-place-items.result.now in
    let index = c.loop-place.place-index in
    let i = get_or places index 0 in
    let at : slice_get places index ≡ Some i = slice_get-get_or places index 0 c.loop-place-test.true in
    let has = subst (λ (xs : List ℕ). Has xs i) c.at-place-items.ensures (index, at) in
    let r = held_at q s is.posed c.args.number a is.there i has in
    let increasing = subst (λ (xs : List ℕ). AllPairs (λ i j. i < j) xs) (sym c.at-place-items.ensures) (is.posed.held c.args.number a is.there).ordered in
    elim c.match-receiver_at.branch [
      | in-Some+in_ok-add_at w ↦
          let read : slice_get s.receivers.now i ≡ Some w.in-Some.receiver = sym c.receiver_at.ensures ∙ w.in-Some.is in
          let first = r.1 in
          let same : r.0 ≡ w.in-Some.receiver = cc in
          let answered = subst (λ (x : Receiver). IsAnswered s.given.linked.now q (receiver_node x.statement) a) same r.2 in
          rw w.findings-is
          (among_next s.given.linked.now s.protocol.now q a s.receivers.now places c.args.findings.now.items is.posed.statements is.posed.receivers.in_order is.posed.are_events increasing
          index i w.in-Some.receiver c.loop-place.findings.items w.add_at.new.findings.items at read (c.loop-place.invariant q a is) (w.in_ok-add_at.ensures q a is (i, read) answered))
      | in_default w ↦ absurd (w.in_default.not-Some r.0 (c.receiver_at.ensures ∙ r.1))
    ]

pub returns : goal.returns
returns c = λ q a is.
    let s = c.args.search.now in
    let places = c.at-place-items.result.now in
    let increasing = subst (λ (xs : List ℕ). AllPairs (λ i j. i < j) xs) (sym c.at-place-items.ensures) (is.posed.held c.args.number a is.there).ordered in
    among_all s.given.linked.now s.protocol.now q a s.receivers.now places c.args.findings.now.items is.posed.statements is.posed.receivers.in_order is.posed.are_events increasing
    c.loop-place.place-index c.loop-place.findings.items c.loop-place-test.false
    (λ i r there answered. subst (λ (xs : List ℕ). Has xs i) (sym c.at-place-items.ensures) (at_held q s is.posed c.args.number a is.there i r there answered))
    (c.loop-place.invariant q a is)
