use Rattle.std.proofs.Common.{take}
use Rattle.lists.specs.Lists.{Has}
use Rattle.spds_rules.specs.declared.node.Node.{Node}
use Rattle.demand_set.specs.Searches.{Grows}
use Rattle.demand_set.proofs.searching.add_all.Given as goal

abbrev pub invariant-loop-target : goal.invariant-loop-target
invariant-loop-target l = record {
  grows : Grows (Has (take l.target-index l.targets)) l.fn.nodes l.nodes;
  all : (n : Node) → Has (take l.target-index l.targets) n → Has l.nodes n;
}
