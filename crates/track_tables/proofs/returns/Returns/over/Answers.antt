use Rattle.track_tables.proofs.Filing.{filed_over}
use Rattle.track_tables.proofs.returns.Returns.over.Goals as goal

pub returns : goal.returns
returns c = rw c.at.ensures (rw (← c.self.view_is) (filed_over c.self.inside.all.items c.self.inside.by_mark c.args.mark c.self.invariant.marks))
