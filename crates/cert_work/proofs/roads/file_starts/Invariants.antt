use Rattle.std.proofs.Common.{◌↔◌, take}
use Rattle.lists.specs.Groups.{found_at}
use Rattle.lists.specs.Lists.{Has}
use Rattle.spds_rules.specs.declared.node.Node.{Node}
use Rattle.spds_rules.specs.Nodes.{IsStart}
use Rattle.cert_lines.specs.contracts.keys.OriginPartialEq.TheImpl as of_origin
use Rattle.cert_lines.specs.declared.keys.Origin.{Origin}
use Rattle.cert_work.proofs.roads.file_starts.Given as goal

abbrev pub invariant-loop-node : goal.invariant-loop-node
invariant-loop-node l = (k : Origin) (n : Node) → Has (found_at of_origin.eq-value.it l.files k) n ↔ (Has (take l.node-index l.nodes) n × IsStart l.linked k.site n)
