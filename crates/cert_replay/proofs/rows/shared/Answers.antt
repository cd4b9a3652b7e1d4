use Rattle.link_sites.specs.declared.site.Site.{Site}
use Rattle.spds_rules.specs.declared.node.Node.{Node}
use Rattle.cert_replay.proofs.From.{from_none, from_some, itself, one_finds}
use Rattle.cert_replay.proofs.Table.{SharesWith, shared_row}
use Rattle.cert_replay.proofs.rows.shared.Goals as goal

pub returns-in_err-object : goal.returns-in_err-object
returns-in_err-object c =
    let p = c.args.view.now.linked.now in
    let t = c.args.view.now.target in
    let given = c.args.given.now in
    rw c.from_residual.ensures (from_none _ _ _ (shared_row p t given c.args.first.now c.args.second.now c.args.string.now) (λ a. c.in_err-object.ensures a.0 a.1))

pub returns-in_err-base : goal.returns-in_err-base
returns-in_err-base c =
    let p = c.args.view.now.linked.now in
    let t = c.args.view.now.target in
    let given = c.args.given.now in
    let a : Site × Node = (c.in_ok-object.object, c.in_ok-object.arg) in
    rw c.from_residual-in_err-base.ensures
    (from_some _ _ _ (shared_row p t given c.args.first.now c.args.second.now c.args.string.now) a (λ x. c.in_ok-object.ensures x.0 x.1) _
    (from_none _ _ _ (itself _ (SharesWith p t given c.args.second.now c.args.string.now a)) (λ x. c.in_err-base.ensures x.0 x.1)))

pub returns : goal.returns
returns c =
    let p = c.args.view.now.linked.now in
    let t = c.args.view.now.target in
    let given = c.args.given.now in
    let a : Site × Node = (c.in_ok-object.object, c.in_ok-object.arg) in
    let b : Site × Node = (c.in_ok-base.base, c.in_ok-base.at) in
    from_some _ _ _ (shared_row p t given c.args.first.now c.args.second.now c.args.string.now) a (λ x. c.in_ok-object.ensures x.0 x.1) _
    (from_some _ _ _ (itself _ (SharesWith p t given c.args.second.now c.args.string.now a)) b (λ x. c.in_ok-base.ensures x.0 x.1) _ (one_finds _))
