use Rattle.std.proofs.lemmas.List.{take_all}
use Rattle.std.proofs.lemmas.Option.{slice_get-get_or}
use Rattle.call_side.specs.Search.{asked}
use Rattle.call_side.proofs.Searching.{led_all, led_more}
use Rattle.call_side.proofs.search.go_on.Goals as goal

pub loop-mark-preserved : goal.loop-mark-preserved
loop-mark-preserved c =
    let marks = c.deref-mark-items.result.now in
    let on = c.in_ok-lead_on.ensures in
    record {
      kept = λ number pair there. on.kept number pair (c.loop-mark.invariant.kept number pair there);
      trail = on.trail;
      led = led_more (asked c.args.question.now) c.args.pair marks c.loop-mark.mark-index _ c.loop-mark.seen.pairs.keys c.lead_on.new.seen.pairs.keys (slice_get-get_or marks c.loop-mark.mark-index 0 c.loop-mark-test.true)
          on.kept c.loop-mark.invariant.led on.led;
    }

pub returns-clause-led : goal.returns-clause-led
returns-clause-led c =
    let marks = c.deref-mark-items.result.now in
    let all = take_all c.loop-mark.mark-index marks c.loop-mark-test.false in
    led_all (asked c.args.question.now) c.args.pair marks c.loop-mark.seen.pairs.keys (rw c.deref-mark-items.ensures.value c.in_ok-marks.ensures) (rw all at c.loop-mark.invariant.led)
