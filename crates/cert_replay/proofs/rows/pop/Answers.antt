use Rattle.cert_replay.proofs.From.{fails, from_none, from_some, itself, where_not, where_so}
use Rattle.cert_replay.proofs.Table.{PopsAlong, PopsBelow, pop_row}
use Rattle.cert_replay.proofs.rows.pop.Goals as goal

pub returns-in_err-source : goal.returns-in_err-source
returns-in_err-source c =
    let p = c.args.view.now.linked.now in
    let t = c.args.view.now.target in
    let given = c.args.given.now in
    rw c.from_residual.ensures (from_none _ _ _ (pop_row p t given c.args.side c.args.from c.args.link c.args.node) c.in_err-source.ensures)

pub returns-in_err-kind : goal.returns-in_err-kind
returns-in_err-kind c =
    let p = c.args.view.now.linked.now in
    let t = c.args.view.now.target in
    let given = c.args.given.now in
    let h = c.in_ok-source.source in
    rw c.from_residual-in_err-kind.ensures (from_some _ _ _ (pop_row p t given c.args.side c.args.from c.args.link c.args.node) h c.in_ok-source.ensures _
    (from_none _ _ _ (itself _ (PopsAlong p t given c.args.side c.args.link c.args.node h)) c.in_err-kind.ensures))

pub returns-in_err-entry : goal.returns-in_err-entry
returns-in_err-entry c =
    let p = c.args.view.now.linked.now in
    let t = c.args.view.now.target in
    let given = c.args.given.now in
    let h = c.in_ok-source.source in
    let k = c.in_ok-kind.kind in
    rw c.from_residual-in_err-entry.ensures (from_some _ _ _ (pop_row p t given c.args.side c.args.from c.args.link c.args.node) h c.in_ok-source.ensures _
    (from_some _ _ _ (itself _ (PopsAlong p t given c.args.side c.args.link c.args.node h)) k c.in_ok-kind.ensures _
    (from_none _ _ _ (itself _ (PopsBelow p t given c.args.side c.args.node h k)) c.in_err-entry.ensures)))

pub returns-then-joins : goal.returns-then-joins
returns-then-joins c =
    let p = c.args.view.now.linked.now in
    let t = c.args.view.now.target in
    let given = c.args.given.now in
    let h = c.in_ok-source.source in
    let k = c.in_ok-kind.kind in
    from_some _ _ _ (pop_row p t given c.args.side c.args.from c.args.link c.args.node) h c.in_ok-source.ensures _
    (from_some _ _ _ (itself _ (PopsAlong p t given c.args.side c.args.link c.args.node h)) k c.in_ok-kind.ensures _
    (from_some _ _ _ (itself _ (PopsBelow p t given c.args.side c.args.node h k)) c.in_ok-entry.entry c.in_ok-entry.ensures _ (where_so _ _ (c.joins.ensures.0 c.if-joins.true))))

pub returns-else-joins : goal.returns-else-joins
returns-else-joins c =
    let p = c.args.view.now.linked.now in
    let t = c.args.view.now.target in
    let given = c.args.given.now in
    let h = c.in_ok-source.source in
    let k = c.in_ok-kind.kind in
    from_some _ _ _ (pop_row p t given c.args.side c.args.from c.args.link c.args.node) h c.in_ok-source.ensures _
    (from_some _ _ _ (itself _ (PopsAlong p t given c.args.side c.args.link c.args.node h)) k c.in_ok-kind.ensures _
    (from_some _ _ _ (itself _ (PopsBelow p t given c.args.side c.args.node h k)) c.in_ok-entry.entry c.in_ok-entry.ensures _ (where_not _ _ (fails _ _ c.joins.ensures c.if-joins.false))))
