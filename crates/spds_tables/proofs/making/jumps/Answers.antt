use Rattle.std.proofs.Common.{arith}
use Rattle.spds_tables.specs.Making.{IsJumpAt}
use Rattle.call_side.proofs.Gathered.{gathered_all, gathered_more}
use Rattle.spds_tables.proofs.making.jumps.Goals as goal

pub loop-edge-preserved : goal.loop-edge-preserved
loop-edge-preserved c = gathered_more (IsJumpAt c.args.nodes.now) c.args.edges.now c.loop-edge.edge-index _ _ _ (omega arith) c.loop-edge.invariant c.in_ok-add_jump.ensures

pub returns : goal.returns
returns c = gathered_all (IsJumpAt c.args.nodes.now) c.args.edges.now c.loop-edge.edge-index c.loop-edge.jumps.items (omega arith) c.loop-edge.invariant
