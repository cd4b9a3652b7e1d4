use Rattle.std.proofs.Common.{◌≤◌, length, arith}
use Rattle.site_events.proofs.Counted.{statements_all}
use Rattle.site_events.proofs.statements.event_statements.Goals as goal

pub returns : goal.returns
returns c =
    let past : length c.args.linked.now.methods ≤ c.loop-method.method = omega arith in
    statements_all c.args.linked.now c.args.protocol.now c.loop-method.method c.loop-method.statements.items past c.loop-method.invariant.statements
