use Rattle.std.proofs.lemmas.Result.{on_ok_weaker}
use Rattle.site_events.specs.EventStatements.{receiver_node}
use Rattle.type_track.proofs.Posing.{grows_barred, site_read, sixteen}
use Rattle.type_track.proofs.search.add_at.Goals as goal

pub returns : goal.returns
returns c =
    on_ok_weaker c.add_barred.result (λ grown q a is has answered.
    let s = c.args.search.now in
    let r = c.args.receiver in
    let n = receiver_node r.statement in
    let node = is.posed.receivers.numbered r has in
    grows_barred q s is.posed a r has _ c.in_ok-relation.relation c.args.findings.now.items c.add_barred.new.findings.items
    (site_read c.sites.result.now s.given.demand.now.sites c.args.number a _ c.sites.ensures is.there) is.tracked
    answered
    (λ i low. c.in_ok-relation.ensures s.given.linked.now s.protocol.now q a s.given.demand.now n i is.table_is (sixteen s.protocol.now is.posed.events.form) node low)
    (grown s.given.linked.now))
    c.add_barred.ensures
