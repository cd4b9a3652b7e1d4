use Rattle.call_side.proofs.Filed.{filed_from}
use Rattle.call_side.proofs.indexed.IndexedBases.steps_from.Goals as goal

pub returns : goal.returns
returns c step = rw (c.at.ensures, ← c.self.view_is) (filed_from c.self.inside.steps.items c.self.inside.by_base c.args.base c.self.invariant.filed.bases step)
