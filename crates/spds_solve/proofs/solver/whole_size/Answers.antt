use Rattle.std.proofs.Common.{arith}
use Rattle.call_side.proofs.Lists.{has-read}
use Rattle.spds_solve.proofs.solver.whole_size.Goals as goal

pub size-requires-clause-fields : goal.size-requires-clause-fields
size-requires-clause-fields c = rw c.site-item.is (c.requires _ (has-read c.args.tables.now c.loop-site.site-index _ (omega arith))).0

pub size-requires-clause-calls : goal.size-requires-clause-calls
size-requires-clause-calls c = rw c.site-item.is (c.requires _ (has-read c.args.tables.now c.loop-site.site-index _ (omega arith))).2
