use Rattle.spds_solve.proofs.Still.{each_may}
use Rattle.spds_solve.proofs.refresh.complete_in_pieces.Goals as goal

pub bring_all-requires-clause-may : goal.bring_all-requires-clause-may
bring_all-requires-clause-may g c κs within = each_may c.args.parts.now c.args.changed.now c.args.tables.now c.requires
