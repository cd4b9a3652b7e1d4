use Rattle.std.proofs.Common.{◌↔◌, List, arith, subst}
use Rattle.std.proofs.lemmas.List.{take_all}
use Rattle.std.proofs.lemmas.Option.{slice_get-get_or}
use Rattle.lists.specs.Groups.{found_at}
use Rattle.lists.specs.Lists.{Has}
use Rattle.spds_rules.specs.declared.node.Node.{Node}
use Rattle.spds_rules.specs.Nodes.{IsStart}
use Rattle.cert_lines.specs.contracts.keys.OriginPartialEq.TheImpl as of_origin
use Rattle.cert_lines.specs.declared.keys.Origin.{Origin}
use Rattle.cert_work.proofs.Filed.{starts_next}
use Rattle.cert_work.proofs.roads.file_starts.Goals as goal

pub loop-node-preserved : goal.loop-node-preserved
loop-node-preserved c =
    starts_next (λ (k : Origin) (n : Node). IsStart c.args.linked.now k.site n) c.args.nodes.now c.loop-node.node-index _ (slice_get-get_or _ _ _ c.loop-node-test.true)
    (λ (k : Origin) (n : Node). Has (found_at of_origin.eq-value.it c.loop-node.files k) n)
    (λ (k : Origin) (n : Node). Has (found_at of_origin.eq-value.it c.file_start.new.files k) n) c.in_ok-file_start.ensures c.loop-node.invariant

pub returns : goal.returns
returns c =
    let all = take_all c.loop-node.node-index c.args.nodes.now (omega arith) in
    subst (λ (ns : List Node). (k : Origin) (n : Node) → Has (found_at of_origin.eq-value.it c.loop-node.files k) n ↔ (Has ns n × IsStart c.args.linked.now k.site n)) all
    c.loop-node.invariant
