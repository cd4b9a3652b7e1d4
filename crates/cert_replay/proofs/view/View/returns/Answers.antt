use Rattle.spds_rules.specs.Demand.{about}
use Rattle.cert_replay.proofs.Looking.{return_iff}
use Rattle.cert_replay.proofs.view.View.returns.Goals as goal

pub returns : goal.returns
returns c =
    let v = c.args.self.now in
    let p = v.linked.now in
    let t = v.target in
    return_iff p (about t) c.args.from c.args.to c.goes.result c.goes.ensures
