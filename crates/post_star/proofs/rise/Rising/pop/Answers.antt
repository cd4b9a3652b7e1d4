use Rattle.post_star.proofs.Applies.{progress_none}
use Rattle.post_star.proofs.rise.Rising.pop.Goals as goal

pub returns-in-Base-clause-applied : goal.returns-in-Base-clause-applied
returns-in-Base-clause-applied g c = rw c.in-Base.is c.pop_below.ensures.applied

pub returns-else-mark-pop-clause-progress : goal.returns-else-mark-pop-clause-progress
returns-else-mark-pop-clause-progress g c = progress_none g.met.W.Weight.laws _ c.requires.told _ _ c.requires.sound
