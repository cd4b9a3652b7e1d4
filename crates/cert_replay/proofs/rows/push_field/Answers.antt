use Rattle.cert_replay.proofs.From.{from_none, from_some, one_finds}
use Rattle.cert_replay.proofs.Table.{push_field_row}
use Rattle.cert_replay.proofs.rows.push_field.Goals as goal

pub returns-in_err-put : goal.returns-in_err-put
returns-in_err-put c =
    let p = c.args.view.now.linked.now in
    let t = c.args.view.now.target in
    let given = c.args.given.now in
    rw c.from_residual.ensures (from_none _ _ _ (push_field_row p t given c.args.from c.args.meet c.args.node) c.in_err-put.ensures)

pub returns : goal.returns
returns c =
    let p = c.args.view.now.linked.now in
    let t = c.args.view.now.target in
    let given = c.args.given.now in
    from_some _ _ _ (push_field_row p t given c.args.from c.args.meet c.args.node) c.in_ok-put.put c.in_ok-put.ensures _ (one_finds _)
