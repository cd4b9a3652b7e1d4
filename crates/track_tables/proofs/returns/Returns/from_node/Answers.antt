use Rattle.track_tables.proofs.Filing.{filed_from_node}
use Rattle.track_tables.proofs.returns.Returns.from_node.Goals as goal

pub returns : goal.returns
returns c = rw c.at.ensures (rw (← c.self.view_is) (filed_from_node c.self.inside.all.items c.self.inside.by_source c.args.node c.self.invariant.sources))
