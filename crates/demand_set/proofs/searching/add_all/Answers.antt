use Rattle.demand_set.proofs.Grown.{Grows-one, all-one}
use Rattle.demand_set.proofs.searching.add_all.Goals as goal

pub loop-target-preserved : goal.loop-target-preserved
loop-target-preserved c = record {
  grows = Grows-one _ _ _ _ _ _ c.loop-target-test.true c.loop-target.invariant.grows c.in_ok-add.ensures.added;
  all = all-one _ _ _ _ _ c.loop-target-test.true c.loop-target.invariant.all c.in_ok-add.ensures.added;
}
