use Rattle.std.proofs.Common.{arith}
use Rattle.call_side.proofs.Gathered.{gathered_all, gathered_more}
use Rattle.track_tables.specs.Returns.{IsReturnOf}
use Rattle.track_tables.proofs.returns.returns_among.Goals as goal

pub loop-edge-preserved : goal.loop-edge-preserved
loop-edge-preserved c =
    gathered_more (IsReturnOf c.args.calls.now) c.args.edges.now c.loop-edge.edge-index _ _ _ (omega arith) c.loop-edge.invariant c.in_ok-add_return.ensures

pub returns : goal.returns
returns c = gathered_all (IsReturnOf c.args.calls.now) c.args.edges.now c.loop-edge.edge-index c.loop-edge.all.items (omega arith) c.loop-edge.invariant
