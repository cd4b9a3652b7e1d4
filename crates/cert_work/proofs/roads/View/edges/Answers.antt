use Rattle.cert_work.proofs.roads.View.edges.Goals as goal

pub returns : goal.returns
returns c = c.stop.ensures.edges
