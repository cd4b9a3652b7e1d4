use Rattle.spds_rules.specs.Demand.{about}
use Rattle.cert_replay.proofs.Looking.{goes_iff}
use Rattle.cert_replay.proofs.view.View.goes.Goals as goal

pub returns : goal.returns
returns c =
    let v = c.args.self.now in
    let p = v.linked.now in
    let t = v.target in
    rw c.is_some.ensures (goes_iff p (about t) v.demand.now.edges c.requires.demand.edges v.tables.now.steps.keys c.requires.tables.steps _ c.find.result c.find.ensures)
