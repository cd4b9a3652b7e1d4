use Rattle.std.proofs.Common.{take}
use Rattle.lists.specs.Lists.{Has}
use Rattle.spds_rules.specs.declared.node.Node.{Node}
use Rattle.cert_work.specs.Wants.{IsWanted}
use Rattle.cert_work.proofs.roads.View.is_wanted_in.Given as goal

abbrev pub invariant-loop-node : goal.invariant-loop-node
invariant-loop-node l = (n : Node) → Has (take l.node-index l.nodes) n → IsWanted l.self.wants.now l.object n → ⊥
