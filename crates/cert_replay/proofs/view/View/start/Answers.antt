use Rattle.spds_rules.specs.Demand.{about}
use Rattle.cert_replay.proofs.From.{fails}
use Rattle.cert_replay.proofs.Looking.{start_no_node, start_none, start_site}
use Rattle.cert_replay.proofs.view.View.start.Goals as goal

pub returns-in_err-number_of : goal.returns-in_err-number_of
returns-in_err-number_of c =
    let v = c.args.self.now in
    let p = v.linked.now in
    let t = v.target in
    rw c.from_residual.ensures (start_none p (about t) c.args.node v.demand.now.nodes c.requires.demand.nodes c.in_err-number_of.ensures)

pub returns-then-is_node : goal.returns-then-is_node
returns-then-is_node c =
    let v = c.args.self.now in
    let p = v.linked.now in
    let t = v.target in
    start_site p (about t) c.args.node v.demand.now.nodes c.requires.demand.nodes _ c.in_ok-number_of.ensures (c.is_node.ensures.0 c.if-is_node.true) c.site_of.result c.site_of.ensures

pub returns-else-is_node : goal.returns-else-is_node
returns-else-is_node c =
    let v = c.args.self.now in
    let p = v.linked.now in
    let t = v.target in
    start_no_node p (about t) c.args.node v.demand.now.nodes c.requires.demand.nodes (fails _ _ c.is_node.ensures c.if-is_node.false)
