use Rattle.cert_replay.proofs.From.{fails, from_none, from_some, where_not, where_so}
use Rattle.cert_replay.proofs.Table.{flow_row}
use Rattle.cert_replay.proofs.rows.flow.Goals as goal

pub returns-in_err-source : goal.returns-in_err-source
returns-in_err-source c =
    let p = c.args.view.now.linked.now in
    let t = c.args.view.now.target in
    let given = c.args.given.now in
    rw c.from_residual.ensures (from_none _ _ _ (flow_row p t given c.args.side c.args.from c.args.node) c.in_err-source.ensures)

pub returns-then-keeps : goal.returns-then-keeps
returns-then-keeps c =
    let p = c.args.view.now.linked.now in
    let t = c.args.view.now.target in
    let given = c.args.given.now in
    from_some _ _ _ (flow_row p t given c.args.side c.args.from c.args.node) c.in_ok-source.source c.in_ok-source.ensures _ (where_so _ _ (c.keeps.ensures.0 c.if-keeps.true))

pub returns-else-keeps : goal.returns-else-keeps
returns-else-keeps c =
    let p = c.args.view.now.linked.now in
    let t = c.args.view.now.target in
    let given = c.args.given.now in
    from_some _ _ _ (flow_row p t given c.args.side c.args.from c.args.node) c.in_ok-source.source c.in_ok-source.ensures _ (where_not _ _ (fails _ _ c.keeps.ensures c.if-keeps.false))
