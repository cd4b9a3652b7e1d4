use Rattle.cert_replay.proofs.From.{from_none, from_some, one_finds}
use Rattle.cert_replay.proofs.Table.{start_row}
use Rattle.cert_replay.proofs.rows.start.Goals as goal

pub returns-in_err-site : goal.returns-in_err-site
returns-in_err-site c =
    let p = c.args.view.now.linked.now in
    let t = c.args.view.now.target in
    let given = c.args.given.now in
    rw c.from_residual.ensures (from_none _ _ _ (start_row p t given c.args.side c.args.node) c.in_err-site.ensures)

pub returns : goal.returns
returns c =
    let p = c.args.view.now.linked.now in
    let t = c.args.view.now.target in
    let given = c.args.given.now in
    from_some _ _ _ (start_row p t given c.args.side c.args.node) c.in_ok-site.site c.in_ok-site.ensures _ (one_finds _)
