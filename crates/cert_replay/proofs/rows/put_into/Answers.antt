use Rattle.std.proofs.Common.{sym}
use Rattle.demand_set.proofs.SameSite.{same_site, self_site}
use Rattle.link_sites.specs.contracts.site.SitePartialEq.TheImpl.{eq-value}
use Rattle.cert_replay.proofs.From.{differs, from_none, from_some, itself, where_not, where_so}
use Rattle.cert_replay.proofs.Table.{PutsHeld, PutsStarted, put_into_row}
use Rattle.cert_replay.proofs.rows.put_into.Goals as goal

pub returns-in_err-stored : goal.returns-in_err-stored
returns-in_err-stored c =
    let p = c.args.view.now.linked.now in
    let t = c.args.view.now.target in
    let given = c.args.given.now in
    rw c.from_residual.ensures (from_none _ _ _ (put_into_row p t given c.args.side c.args.from c.args.meet c.args.node) c.in_err-stored.ensures)

pub returns-in_err-entry : goal.returns-in_err-entry
returns-in_err-entry c =
    let p = c.args.view.now.linked.now in
    let t = c.args.view.now.target in
    let given = c.args.given.now in
    let s = c.in_ok-stored.stored in
    rw c.from_residual-in_err-entry.ensures (from_some _ _ _ (put_into_row p t given c.args.side c.args.from c.args.meet c.args.node) s c.in_ok-stored.ensures _
    (from_none _ _ _ (itself _ (PutsHeld p t given c.args.node s)) c.in_err-entry.ensures))

pub returns-in_err-start : goal.returns-in_err-start
returns-in_err-start c =
    let p = c.args.view.now.linked.now in
    let t = c.args.view.now.target in
    let given = c.args.given.now in
    let s = c.in_ok-stored.stored in
    let e = c.in_ok-entry.entry in
    rw c.from_residual-in_err-start.ensures (from_some _ _ _ (put_into_row p t given c.args.side c.args.from c.args.meet c.args.node) s c.in_ok-stored.ensures _
    (from_some _ _ _ (itself _ (PutsHeld p t given c.args.node s)) e c.in_ok-entry.ensures _
    (from_none _ _ _ (itself _ (PutsStarted p t given s e)) c.in_err-start.ensures)))

pub returns-then-eq : goal.returns-then-eq
returns-then-eq c =
    let p = c.args.view.now.linked.now in
    let t = c.args.view.now.target in
    let given = c.args.given.now in
    let s = c.in_ok-stored.stored in
    let e = c.in_ok-entry.entry in
    from_some _ _ _ (put_into_row p t given c.args.side c.args.from c.args.meet c.args.node) s c.in_ok-stored.ensures _
    (from_some _ _ _ (itself _ (PutsHeld p t given c.args.node s)) e c.in_ok-entry.ensures _
    (from_some _ _ _ (itself _ (PutsStarted p t given s e)) c.in_ok-start.start c.in_ok-start.ensures _ (where_so _ _ (same_site _ _ (sym c.if-eq.ensures)))))

pub returns-else-eq : goal.returns-else-eq
returns-else-eq c =
    let p = c.args.view.now.linked.now in
    let t = c.args.view.now.target in
    let given = c.args.given.now in
    let s = c.in_ok-stored.stored in
    let e = c.in_ok-entry.entry in
    from_some _ _ _ (put_into_row p t given c.args.side c.args.from c.args.meet c.args.node) s c.in_ok-stored.ensures _
    (from_some _ _ _ (itself _ (PutsHeld p t given c.args.node s)) e c.in_ok-entry.ensures _
    (from_some _ _ _ (itself _ (PutsStarted p t given s e)) c.in_ok-start.start c.in_ok-start.ensures _ (where_not _ _ (differs (eq-value).it self_site _ _ c.if-eq.ensures))))
