use Rattle.post_star.proofs.common.Common.rules.Goals as goal

pub returns-clause-told : goal.returns-clause-told
returns-clause-told g c = rw (← c.self.view_is) c.self.invariant.told
