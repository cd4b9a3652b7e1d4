use Rattle.std.proofs.Common.{◌↔◌, List, subst}
use Rattle.lists.specs.Groups.{found_at}
use Rattle.lists.specs.Lists.{Has}
use Rattle.spds_rules.specs.declared.edge.Edge.{Edge}
use Rattle.spds_rules.specs.declared.node.Node.{Node}
use Rattle.spds_rules.specs.declared.store.StoreAt.{StoreAt}
use Rattle.spds_rules.specs.Nodes.{IsStart}
use Rattle.cert_lines.specs.contracts.keys.OriginPartialEq.TheImpl as of_origin
use Rattle.cert_lines.specs.declared.keys.Origin.{Origin}
use Rattle.cert_work.specs.declared.roads.Roads.{Roads}
use Rattle.cert_work.specs.Roads.{AreUnder, IsAmongFirst}
use Rattle.cert_work.proofs.Filed.{IsEndAmong, first_ends, roads_of}
use Rattle.cert_work.proofs.roads.Roads.of.Goals as goal

pub returns : goal.returns
returns c =
    let nodes = c.number_edges.new.nodes in
    let roads : Roads = record { nodes = nodes; ends = c.len-ends.result; edges = c.in_ok-rows_of.field-0; starts = c.in_ok-file_starts.field-0 } in
    rw c.nodes.view_is (roads_of c.args.linked.now c.args.target c.args.demand.now c.requires roads c.in_ok-pairs.pairs.items
    (subst (λ (es : List Edge). AreUnder nodes.keys es c.in_ok-pairs.pairs.items) c.edges.ensures c.in_ok-pairs.ensures.under) (rw c.deref.ensures.value at c.in_ok-rows_of.ensures)
    (subst (λ (ns : List Node). (k : Origin) (n : Node) → Has (found_at of_origin.eq-value.it c.in_ok-file_starts.field-0 k) n ↔ (Has ns n × IsStart c.args.linked.now k.site n))
    c.nodes-2.ensures c.in_ok-file_starts.ensures)
    (subst (λ (ss : List StoreAt). (n : Node) → IsAmongFirst nodes.keys c.len-ends.result n ↔ IsEndAmong c.args.target ss n) c.stores.ensures
    (first_ends c.args.target _ _ _ c.len-ends.result c.len-ends.ensures.value c.in_ok-nodes.ensures.has c.in_ok-pairs.ensures.longer)))
