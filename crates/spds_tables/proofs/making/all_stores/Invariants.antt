use Rattle.std.proofs.Common.{take}
use Rattle.lists.specs.Lists.{Each}
use Rattle.spds_tables.specs.PartsOf.{IsStoreOf}
use Rattle.spds_tables.proofs.making.all_stores.Given as goal

abbrev pub invariant-loop-store : goal.invariant-loop-store
invariant-loop-store l = Each (IsStoreOf l.demand.nodes) (take l.store-index l.store-items) l.stores.items
