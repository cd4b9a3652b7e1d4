use Rattle.std.proofs.Common.{arith}
use Rattle.spds_tables.specs.Making.{IsStartAt}
use Rattle.call_side.proofs.Gathered.{gathered_all, gathered_more}
use Rattle.spds_tables.proofs.making.starts_among.Goals as goal

pub loop-number-preserved : goal.loop-number-preserved
loop-number-preserved c =
    gathered_more (IsStartAt c.args.linked.now c.args.nodes.now) c.args.numbers.now c.loop-number.number-index _ _ _ (omega arith) c.loop-number.invariant c.in_ok-add_start.ensures

pub returns : goal.returns
returns c =
    gathered_all (IsStartAt c.args.linked.now c.args.nodes.now) c.args.numbers.now c.loop-number.number-index c.loop-number.starts.items (omega arith) c.loop-number.invariant
