use Rattle.link_bodies.proofs.Sorted.{first_none, first_some}
use Rattle.link_bodies.proofs.index.BodyIndex.local.Goals as goal

pub returns-clause-some : goal.returns-clause-some
returns-clause-some c = rw (← c.self.view_is) (first_some _ c.args.name c.find.result (c.find.ensures _ c.self.invariant.0))

pub returns-clause-none : goal.returns-clause-none
returns-clause-none c = rw (← c.self.view_is) (first_none _ c.args.name c.find.result (c.find.ensures _ c.self.invariant.0))
