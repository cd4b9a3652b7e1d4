use Rattle.std.proofs.Common.{◌≡◌, take}
use Rattle.lists.specs.Lists.{Has, AreAll}
use Rattle.demand_set.proofs.listed.ListedGraphGraph.stores.Given as goal

abbrev pub invariant-loop-store : goal.invariant-loop-store
invariant-loop-store l = AreAll (λ s. Has (take l.store-index l.store-items) s × (s.field ≡ l.fn.field)) l.found.items
