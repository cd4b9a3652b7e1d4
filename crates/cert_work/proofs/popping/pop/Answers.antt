use Rattle.cert_work.proofs.Giving.{pop_gives}
use Rattle.cert_work.proofs.popping.pop.Goals as goal

pub add-requires-clause-gives : goal.add-requires-clause-gives
add-requires-clause-gives c = pop_gives c.args.view.now c.args.written.now c.args.held.now c.requires.held c.args.edge.now c.requires.edge c.requires.from c.args.below.now c.requires.below c.requires.takes
