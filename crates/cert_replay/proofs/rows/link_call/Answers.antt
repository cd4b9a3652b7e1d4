use Rattle.cert_replay.proofs.From.{fails, from_none, from_some, where_not, where_so}
use Rattle.cert_replay.proofs.Table.{link_call_row}
use Rattle.cert_replay.proofs.rows.link_call.Goals as goal

pub returns-in_err-source : goal.returns-in_err-source
returns-in_err-source c =
    let p = c.args.view.now.linked.now in
    let t = c.args.view.now.target in
    let given = c.args.given.now in
    rw c.from_residual.ensures (from_none _ _ _ (link_call_row p t given c.args.from c.args.node) c.in_err-source.ensures)

pub returns-then-joins : goal.returns-then-joins
returns-then-joins c =
    let p = c.args.view.now.linked.now in
    let t = c.args.view.now.target in
    let given = c.args.given.now in
    from_some _ _ _ (link_call_row p t given c.args.from c.args.node) c.in_ok-source.source c.in_ok-source.ensures _ (where_so _ _ (c.joins.ensures.0 c.if-joins.true))

pub returns-else-joins : goal.returns-else-joins
returns-else-joins c =
    let p = c.args.view.now.linked.now in
    let t = c.args.view.now.target in
    let given = c.args.given.now in
    from_some _ _ _ (link_call_row p t given c.args.from c.args.node) c.in_ok-source.source c.in_ok-source.ensures _ (where_not _ _ (fails _ _ c.joins.ensures c.if-joins.false))
