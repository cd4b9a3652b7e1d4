use Rattle.std.proofs.Common.{subst}
use Rattle.lists.specs.Grown.{IsGrownBy}
use Rattle.lists.proofs.Places.{slice_get-read}
use Rattle.link_narrow.specs.Reaching.{StaysFrom}
use Rattle.link_narrow.proofs.Grown.{grown_code}
use Rattle.link_narrow.proofs.reaching.find_in.Goals as goal

pub loop-at-preserved : goal.loop-at-preserved
loop-at-preserved c =
    let codes = c.args.codes.now in
    let at = c.loop-at.at in
    let here = c.index-codes-at.result in
    grown_code c.args.named.now c.args.method codes at here c.args.found.now.keys c.loop-at.found.keys c.find_at.new.found.keys
    (slice_get-read codes at here c.loop-at-test.true c.index-codes-at.is) c.loop-at.invariant
    (subst (λ i. IsGrownBy (StaysFrom c.args.named.now c.args.method i here) c.loop-at.found.keys c.find_at.new.found.keys) c.in-Ok.ensures.1 c.in_ok-find_at.ensures)
