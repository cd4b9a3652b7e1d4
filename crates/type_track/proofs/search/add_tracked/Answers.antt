use Rattle.std.proofs.Common.{ℕ, List, sym, subst}
use Rattle.std.proofs.lemmas.Result.{on_ok_weaker}
use Rattle.site_events.specs.Events.{AreHeldAmong}
use Rattle.type_track.proofs.Posing.{held_among}
use Rattle.type_track.proofs.search.add_tracked.Goals as goal

pub returns : goal.returns
returns c =
    on_ok_weaker c.add_all_at.result (λ grown q a posed there tracked.
    let s = c.args.search.now in
    let held = subst (λ (places : List ℕ). AreHeldAmong s.given.linked.now q a posed.statements places) (sym c.at.ensures) (held_among q s posed c.args.number a there) in
    let events = c.in_ok-events.ensures s.given.linked.now s.protocol.now q a posed.statements posed.events held in
    grown q a (record {
      posed = posed;
      there = there;
      tracked = tracked;
      table_is = c.in_ok-states.ensures s.protocol.now q a posed.given.demand posed.given.loaded there events;
    }))
    c.add_all_at.ensures
