use Rattle.demand_set.proofs.Grown.{Grows-ends, ends-more}
use Rattle.demand_set.proofs.visiting.add_ends.Goals as goal

pub loop-store-preserved : goal.loop-store-preserved
loop-store-preserved c = record {
  grows = Grows-ends _ _ _ _ _ _ _ c.loop-store-test.true c.loop-store.invariant.grows c.in_ok-add.ensures.added c.in_ok-add-2.ensures.added;
  ends = ends-more _ _ _ _ _ _ c.loop-store-test.true c.loop-store.invariant.ends c.in_ok-add.ensures.added c.in_ok-add-2.ensures.added;
}
