use Rattle.track_tables.proofs.Filing.{filed_crossing}
use Rattle.track_tables.proofs.returns.Returns.crossing.Goals as goal

pub returns : goal.returns
returns c = rw c.at.ensures (rw (← c.self.view_is) (filed_crossing c.self.inside.all.items c.self.inside.by_both c.args.node c.args.mark c.self.invariant.both))
