use Rattle.post_star.proofs.common.Common.bases.Goals as goal

pub returns-clause-led : goal.returns-clause-led
returns-clause-led g c = rw (← c.self.view_is) c.self.invariant.led
