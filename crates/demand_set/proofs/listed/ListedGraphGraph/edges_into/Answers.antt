use Rattle.std.proofs.Common.{◌≡◌, sym}
use Rattle.std.proofs.lemmas.List.{take_all}
use Rattle.demand_set.proofs.Selected.{AreAll-found, AreAll-skipped}
use Rattle.spds_rules.proofs.Keys.{differs_node, same_node}
use Rattle.demand_set.proofs.listed.ListedGraphGraph.edges_into.Goals as goal
use Rattle.demand_set.proofs.listed.ListedGraphGraph.edges_into.Goals.{then-eq+in_ok-put_edge, else-eq}

pub loop-edge-preserved : goal.loop-edge-preserved
loop-edge-preserved c = elim c.if-eq.branch [
  | then-eq+in_ok-put_edge w ↦ rw w.into-is (AreAll-found (λ e. e.to ≡ c.args.node) _ _ _ _ _ c.loop-edge-test.true c.loop-edge.invariant w.in_ok-put_edge.ensures (same_node _ _ (sym w.if-eq.ensures)))
  | else-eq w ↦ rw w.into-is (AreAll-skipped (λ e. e.to ≡ c.args.node) _ _ _ _ c.loop-edge-test.true c.loop-edge.invariant (differs_node _ _ w.if-eq.ensures))
]

pub returns-clause-into : goal.returns-clause-into
returns-clause-into c = rw (take_all c.loop-edge.edge-index c.deref-edge-items.result.now c.loop-edge-test.false, c.deref-edge-items.ensures.value) at c.loop-edge.invariant
