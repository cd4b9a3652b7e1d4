use Rattle.std.proofs.Common.{arith}
use Rattle.call_side.specs.Arrivals.{HasOwn}
use Rattle.call_side.specs.Coded.{node_count}
use Rattle.call_side.proofs.Arriving.{gathered_read, none_there}
use Rattle.call_side.proofs.Gathered.{gathered_all, gathered_more}
use Rattle.call_side.proofs.arrivals.arrivals.Goals as goal

pub loop-entry-init : goal.loop-entry-init
loop-entry-init c n = ((λ has. absurd (none_there c.new-nodes.result.keys c.new-nodes.ensures.len n has)), (λ h. cc h.1.1))

pub loop-entry-preserved : goal.loop-entry-preserved
loop-entry-preserved c =
    gathered_more (HasOwn node_count c.args.table.now) c.as_slice-entries.result.now c.loop-entry.entry-index _ c.loop-entry.nodes.keys c.add_nodes.new.nodes.keys (omega arith) c.loop-entry.invariant c.in_ok-add_nodes.ensures

pub returns : goal.returns
returns c =
    let live = c.in_ok-live.ensures in
    let gathered = gathered_all (HasOwn node_count c.args.table.now) c.as_slice-entries.result.now c.loop-entry.entry-index c.loop-entry.nodes.keys (omega arith) c.loop-entry.invariant in
    gathered_read c.args.table.now c.in_ok-live.live.keys live.sound live.done c.loop-entry.nodes.keys (rw c.as_slice-entries.ensures.keys at gathered)
