use Rattle.std.proofs.Common.{arith, refl}
use Rattle.track_tables.proofs.ByNode.{put_all, put_more, put_none}
use Rattle.track_tables.proofs.by_node.add_row.Goals as goal

pub loop-reached-init : goal.loop-reached-init
loop-reached-init c = put_none c.args.entry c.row-row.result.now c.args.cells.now.items

pub loop-reached-preserved : goal.loop-reached-preserved
loop-reached-preserved c =
    rw c.in_ok-push.ensures.items
    (put_more c.args.entry c.row-row.result.now c.args.cells.now.items c.loop-reached.reached-index _ c.loop-reached.cells.items _ (omega arith) refl c.loop-reached.invariant)

pub returns : goal.returns
returns c =
    put_all c.args.entry c.row-row.result.now c.args.cells.now.items c.args.table.now c.row-row.ensures.each c.loop-reached.reached-index c.loop-reached.cells.items (omega arith)
    c.loop-reached.invariant
