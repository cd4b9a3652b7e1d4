use Rattle.cert_work.proofs.Giving.{link_gives}
use Rattle.cert_work.proofs.along.link.Goals as goal

pub add-requires-clause-gives : goal.add-requires-clause-gives
add-requires-clause-gives c = link_gives c.args.view.now c.args.written.now c.args.held.now c.requires.held c.args.edge.now c.requires.edge c.requires.from c.args.call c.requires.side c.requires.kind
