use Rattle.std.proofs.lemmas.Result.{on_ok_weaker}
use Rattle.track_report.proofs.Told.{unsafe_line}
use Rattle.track_report.proofs.report.push_unsafe.Goals as goal

pub returns : goal.returns
returns c =
    on_ok_weaker c.write.result
    (unsafe_line c.args.linked.now c.args.protocol.now c.args.finding c.state_name-state.result.now c.event_name-event.result.now _ _ _ _ _ _
    c.in_ok-push_str.ensures.bytes c.in_ok-push_site_text.ensures c.in_ok-push_str-2.ensures.bytes c.in_ok-push_place_text.ensures
    c.state_name-state.ensures c.event_name-event.ensures)
    c.write.ensures.bytes
