use Rattle.cert_replay.proofs.From.{fails, from_none, from_some, where_not, where_so}
use Rattle.cert_replay.proofs.Table.{base_pop_row}
use Rattle.cert_replay.proofs.rows.base_pop.Goals as goal

pub returns-in_err-source : goal.returns-in_err-source
returns-in_err-source c =
    let p = c.args.view.now.linked.now in
    let t = c.args.view.now.target in
    let given = c.args.given.now in
    rw c.from_residual.ensures (from_none _ _ _ (base_pop_row p t given c.args.from c.args.node) c.in_err-source.ensures)

pub returns-then-returns_base : goal.returns-then-returns_base
returns-then-returns_base c =
    let p = c.args.view.now.linked.now in
    let t = c.args.view.now.target in
    let given = c.args.given.now in
    from_some _ _ _ (base_pop_row p t given c.args.from c.args.node) c.in_ok-source.source c.in_ok-source.ensures _ (where_so _ _ (c.returns_base.ensures.0 c.if-returns_base.true))

pub returns-else-returns_base : goal.returns-else-returns_base
returns-else-returns_base c =
    let p = c.args.view.now.linked.now in
    let t = c.args.view.now.target in
    let given = c.args.given.now in
    from_some _ _ _ (base_pop_row p t given c.args.from c.args.node) c.in_ok-source.source c.in_ok-source.ensures _ (where_not _ _ (fails _ _ c.returns_base.ensures c.if-returns_base.false))
