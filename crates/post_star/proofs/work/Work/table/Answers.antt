use Rattle.post_star.proofs.Jobs.{work_saturated}
use Rattle.post_star.proofs.work.Work.table.Goals as goal

pub returns : goal.returns
returns g c = rw (← c.self.view_is) (work_saturated g.met.W.Weight.laws c.self.invariant (rw (← c.self.view_is) at c.requires))
