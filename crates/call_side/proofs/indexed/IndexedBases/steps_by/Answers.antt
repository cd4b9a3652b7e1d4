use Rattle.call_side.proofs.Filed.{filed_by, filed_only}
use Rattle.call_side.proofs.indexed.IndexedBases.steps_by.Goals as goal

pub returns-clause-each : goal.returns-clause-each
returns-clause-each c below = rw (c.at.ensures, ← c.self.view_is) (filed_by c.self.inside.steps.items c.self.inside.by_mark c.args.base c.args.mark c.self.invariant.filed.marks below)

pub returns-clause-only : goal.returns-clause-only
returns-clause-only c step = rw c.at.ensures (filed_only c.self.inside.steps.items c.self.inside.by_mark c.args.base c.args.mark c.self.invariant.filed.marks step)
