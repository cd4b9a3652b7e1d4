use Rattle.std.proofs.Common.{◌↔◌, take}
use Rattle.lists.specs.Lists.{Has, IsApart}
use Rattle.spds_rules.specs.declared.node.Node.{Node}
use Rattle.cert_work.proofs.Filed.{IsEndAmong}
use Rattle.cert_work.proofs.roads.ends_of.Given as goal

abbrev pub invariant-loop-store : goal.invariant-loop-store
invariant-loop-store l = record {
  has : (n : Node) → Has l.ends.keys n ↔ IsEndAmong l.fn.target (take l.store-index l.stores) n;
  apart : IsApart l.ends.keys;
}
