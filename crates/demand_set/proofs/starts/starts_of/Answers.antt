use Rattle.demand_set.proofs.Filed.{AreFiled-more, AreStarts-whole}
use Rattle.demand_set.proofs.starts.starts_of.Goals as goal

pub loop-number-preserved : goal.loop-number-preserved
loop-number-preserved c = AreFiled-more _ _ _ _ _ _ c.loop-number-test.true c.loop-number.invariant c.in_ok-file.ensures

pub returns : goal.returns
returns c = AreStarts-whole _ _ _ _ c.loop-number-test.false c.loop-number.invariant
