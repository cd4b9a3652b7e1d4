use Rattle.std.proofs.Common.{arith}
use Rattle.call_side.proofs.Arriving.{nodes_all, nodes_more, nodes_none}
use Rattle.call_side.proofs.arrivals.add_nodes.Goals as goal

pub loop-reached-init : goal.loop-reached-init
loop-reached-init c = nodes_none c.row-row.result.now c.args.nodes.now.keys

pub loop-reached-preserved : goal.loop-reached-preserved
loop-reached-preserved c =
    nodes_more c.row-row.result.now c.loop-reached.reached-index _ c.args.nodes.now.keys c.loop-reached.nodes.keys c.add_node.new.nodes.keys (omega arith) c.loop-reached.invariant
    c.in_ok-add_node.ensures

pub returns : goal.returns
returns c = nodes_all c.args.table.now c.args.entry c.row-row.result.now c.row-row.ensures.each c.loop-reached.reached-index (omega arith) c.args.nodes.now.keys c.loop-reached.nodes.keys c.loop-reached.invariant
