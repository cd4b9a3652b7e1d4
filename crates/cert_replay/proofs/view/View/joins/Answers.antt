use Rattle.spds_rules.specs.Demand.{about}
use Rattle.cert_replay.proofs.Looking.{only_iff}
use Rattle.cert_replay.proofs.view.View.joins.Goals as goal

pub returns : goal.returns
returns c =
    let v = c.args.self.now in
    let p = v.linked.now in
    let t = v.target in
    only_iff p (about t) c.args.from c.args.to c.args.kind c.goes.result c.goes.ensures
