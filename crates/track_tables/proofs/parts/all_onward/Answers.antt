use Rattle.std.proofs.Common.{arith}
use Rattle.post_star.specs.declared.key.Key.TheVariants as key
use Rattle.post_star.specs.Groups.{found_at}
use Rattle.call_side.proofs.Gathered.{gathered_all, gathered_more, gathered_none}
use Rattle.track_tables.specs.Making.{IsOnwardFrom}
use Rattle.track_tables.proofs.Taken.{no_edge}
use Rattle.track_tables.proofs.parts.all_onward.Goals as goal

pub loop-edge-init : goal.loop-edge-init
loop-edge-init c = λ number. rw (c.new-onward.ensures (key.Node number)) (gathered_none (IsOnwardFrom number) c.args.edges.now)

pub loop-edge-preserved : goal.loop-edge-preserved
loop-edge-preserved c = λ number.
    gathered_more (IsOnwardFrom number) c.args.edges.now c.loop-edge.edge-index no_edge (found_at c.loop-edge.onward (key.Node number))
    (found_at c.add_onward.new.onward (key.Node number)) (omega arith) (c.loop-edge.invariant number) (c.in_ok-add_onward.ensures number)

pub returns : goal.returns
returns c = λ number.
    gathered_all (IsOnwardFrom number) c.args.edges.now c.loop-edge.edge-index (found_at c.loop-edge.onward (key.Node number)) (omega arith) (c.loop-edge.invariant number)
