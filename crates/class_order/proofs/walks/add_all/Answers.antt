use Rattle.class_order.proofs.Visited.{visits_more}
use Rattle.class_order.proofs.walks.add_all.Goals as goal

pub loop-class-preserved : goal.loop-class-preserved
loop-class-preserved c = visits_more _ _ _ _ c.loop-class.class-index 0 _ c.loop-class-test.true c.loop-class.invariant c.in_ok-insert.ensures.added
