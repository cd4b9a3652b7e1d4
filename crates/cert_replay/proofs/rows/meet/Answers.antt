use Rattle.cert_replay.proofs.From.{fails, from_none, from_some, itself, where_not, where_so}
use Rattle.cert_replay.proofs.Table.{MeetsBy, MeetsHeld, meet_row}
use Rattle.cert_replay.proofs.rows.meet.Goals as goal

pub returns-in_err-pair : goal.returns-in_err-pair
returns-in_err-pair c =
    let p = c.args.view.now.linked.now in
    let t = c.args.view.now.target in
    let given = c.args.given.now in
    rw c.from_residual.ensures (from_none _ _ _ (meet_row p t given c.args.shared c.args.is_base) c.in_err-pair.ensures)

pub returns-in_err-store : goal.returns-in_err-store
returns-in_err-store c =
    let p = c.args.view.now.linked.now in
    let t = c.args.view.now.target in
    let given = c.args.given.now in
    let s = c.in_ok-pair.pair in
    rw c.from_residual-in_err-store.ensures (from_some _ _ _ (meet_row p t given c.args.shared c.args.is_base) s c.in_ok-pair.ensures _
    (from_none _ _ _ (itself _ (MeetsBy p t given c.args.is_base s)) c.in_err-store.ensures))

pub returns-in_err-itself : goal.returns-in_err-itself
returns-in_err-itself c =
    let p = c.args.view.now.linked.now in
    let t = c.args.view.now.target in
    let given = c.args.given.now in
    let s = c.in_ok-pair.pair in
    let store = c.in_ok-store.store in
    rw c.from_residual-in_err-itself.ensures (from_some _ _ _ (meet_row p t given c.args.shared c.args.is_base) s c.in_ok-pair.ensures _
    (from_some _ _ _ (itself _ (MeetsBy p t given c.args.is_base s)) store c.in_ok-store.ensures _
    (from_none _ _ _ (itself _ (MeetsHeld p t given s store)) c.in_err-itself.ensures)))

pub returns-then-is_base_with : goal.returns-then-is_base_with
returns-then-is_base_with c =
    let p = c.args.view.now.linked.now in
    let t = c.args.view.now.target in
    let given = c.args.given.now in
    let s = c.in_ok-pair.pair in
    let store = c.in_ok-store.store in
    from_some _ _ _ (meet_row p t given c.args.shared c.args.is_base) s c.in_ok-pair.ensures _
    (from_some _ _ _ (itself _ (MeetsBy p t given c.args.is_base s)) store c.in_ok-store.ensures _
    (from_some _ _ _ (itself _ (MeetsHeld p t given s store)) c.in_ok-itself.itself c.in_ok-itself.ensures _ (where_so _ _ (c.is_base_with.ensures.0 c.if-is_base_with.true))))

pub returns-else-is_base_with : goal.returns-else-is_base_with
returns-else-is_base_with c =
    let p = c.args.view.now.linked.now in
    let t = c.args.view.now.target in
    let given = c.args.given.now in
    let s = c.in_ok-pair.pair in
    let store = c.in_ok-store.store in
    from_some _ _ _ (meet_row p t given c.args.shared c.args.is_base) s c.in_ok-pair.ensures _
    (from_some _ _ _ (itself _ (MeetsBy p t given c.args.is_base s)) store c.in_ok-store.ensures _
    (from_some _ _ _ (itself _ (MeetsHeld p t given s store)) c.in_ok-itself.itself c.in_ok-itself.ensures _ (where_not _ _ (fails _ _ c.is_base_with.ensures c.if-is_base_with.false))))
