use Rattle.std.proofs.Common.{◌≡◌, take}
use Rattle.lists.specs.Lists.{Has, AreAll}
use Rattle.demand_set.proofs.listed.ListedGraphGraph.edges_into.Given as goal

abbrev pub invariant-loop-edge : goal.invariant-loop-edge
invariant-loop-edge l = AreAll (λ e. Has (take l.edge-index l.edge-items) e × (e.to ≡ l.fn.node)) l.into.items
