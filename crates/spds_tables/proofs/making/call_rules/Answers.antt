use Rattle.std.proofs.Common.{arith}
use Rattle.spds_tables.specs.Making.{IsCallRuleOf}
use Rattle.call_side.proofs.Gathered.{gathered_all, gathered_more}
use Rattle.spds_tables.proofs.making.call_rules.Goals as goal

pub loop-edge-preserved : goal.loop-edge-preserved
loop-edge-preserved c =
    gathered_more (IsCallRuleOf c.args.calls.now) c.args.edges.now c.loop-edge.edge-index _ _ _ (omega arith) c.loop-edge.invariant c.in_ok-add_call_rule.ensures

pub returns : goal.returns
returns c = gathered_all (IsCallRuleOf c.args.calls.now) c.args.edges.now c.loop-edge.edge-index c.loop-edge.rules.items (omega arith) c.loop-edge.invariant
