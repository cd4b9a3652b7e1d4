use Rattle.std.proofs.Common.{ap, arith}
use Rattle.std.specs.declared.result.Result.TheVariants.{Ok}
use Rattle.call_side.proofs.Arriving.{none_there}
use Rattle.call_side.proofs.arrivals.live_entries.Goals as goal

pub loop-live-init : goal.loop-live-init
loop-live-init c e has = absurd (none_there c.new-live.result.keys c.new-live.ensures.len e has)

pub loop-live-smaller : goal.loop-live-smaller
loop-live-smaller c =
    let more = c.in_ok-sweep.ensures.more (ap Ok c.if-branch.true) in
    let few = c.in_ok-sweep.ensures.few in
    omega arith

pub returns-clause-done : goal.returns-clause-done
returns-clause-done c = c.in_ok-sweep.ensures.done (ap Ok c.if-branch.false)
