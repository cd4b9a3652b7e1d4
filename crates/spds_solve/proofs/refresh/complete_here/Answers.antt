use Rattle.spds_solve.proofs.Still.{each_may}
use Rattle.spds_solve.proofs.refresh.complete_here.Goals as goal

pub bring_here-requires-clause-may : goal.bring_here-requires-clause-may
bring_here-requires-clause-may c κs = each_may c.args.parts.now c.args.changed.now c.args.tables.now c.requires
