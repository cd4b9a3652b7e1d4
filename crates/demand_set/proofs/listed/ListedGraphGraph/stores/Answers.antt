use Rattle.std.proofs.Common.{◌≡◌}
use Rattle.std.proofs.lemmas.List.{take_all}
use Rattle.demand_set.proofs.Selected.{AreAll-found, AreAll-skipped}
use Rattle.demand_set.proofs.listed.ListedGraphGraph.stores.Goals as goal
use Rattle.demand_set.proofs.listed.ListedGraphGraph.stores.Goals.{then-store-field+in_ok-put_store, else-store-field}

pub loop-store-preserved : goal.loop-store-preserved
loop-store-preserved c = elim c.if-store-field.branch [
  | then-store-field+in_ok-put_store w ↦ rw w.found-is (AreAll-found (λ s. s.field ≡ c.args.field) _ _ _ _ _ c.loop-store-test.true c.loop-store.invariant w.in_ok-put_store.ensures w.if-store-field.true)
  | else-store-field w ↦ rw w.found-is (AreAll-skipped (λ s. s.field ≡ c.args.field) _ _ _ _ c.loop-store-test.true c.loop-store.invariant w.if-store-field.false)
]

pub returns-clause-found : goal.returns-clause-found
returns-clause-found c = rw (take_all c.loop-store.store-index c.deref-store-items.result.now c.loop-store-test.false, c.deref-store-items.ensures.value) at c.loop-store.invariant
