use Rattle.std.proofs.Common.{take}
use Rattle.lists.specs.Lists.{Has}
use Rattle.spds_rules.specs.declared.node.Node.{Node}
use Rattle.demand_set.specs.Searches.{Grows, IsEndOf}
use Rattle.demand_set.proofs.visiting.add_ends.Given as goal

abbrev pub invariant-loop-store : goal.invariant-loop-store
invariant-loop-store l = record {
  grows : Grows (IsEndOf (Has (take l.store-index l.stores))) l.fn.nodes l.nodes;
  ends : (n : Node) → IsEndOf (Has (take l.store-index l.stores)) n → Has l.nodes n;
}
