use Rattle.post_star.proofs.common.Common.index.Goals as goal

pub returns : goal.returns
returns g c = rw (← c.self.view_is) c.self.invariant.indexed
