use Rattle.std.proofs.lemmas.Result.{on_ok_weaker}
use Rattle.call_side.specs.Search.{asked}
use Rattle.call_side.proofs.Searching.{led_by, trail_by}
use Rattle.call_side.proofs.search.lead_on.Goals as goal

pub returns-clause-trail : goal.returns-clause-trail
returns-clause-trail c =
    on_ok_weaker c.add_all.result (λ came. trail_by (asked c.args.question.now) c.args.pair c.args.mark c.args.from c.args.seen.now.pairs.keys c.add_all.new.seen.pairs.keys
    c.args.seen.now.origins.items c.add_all.new.seen.origins.items c.in_ok-firsts.firsts.items c.in_ok-seconds.seconds.items c.requires.there c.in_ok-firsts.ensures c.in_ok-seconds.ensures came c.requires.trail)
    (rw (c.deref.ensures.value, c.deref-2.ensures.value) at c.add_all.ensures)

pub returns-clause-led : goal.returns-clause-led
returns-clause-led c =
    on_ok_weaker c.add_all.result (λ came. led_by (asked c.args.question.now) c.args.pair c.args.mark c.args.from c.args.seen.now.pairs.keys c.add_all.new.seen.pairs.keys
    c.args.seen.now.origins.items c.add_all.new.seen.origins.items c.in_ok-firsts.firsts.items c.in_ok-seconds.seconds.items c.requires.there c.in_ok-firsts.ensures c.in_ok-seconds.ensures came)
    (rw (c.deref.ensures.value, c.deref-2.ensures.value) at c.add_all.ensures)
