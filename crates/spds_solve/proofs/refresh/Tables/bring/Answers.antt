use Rattle.spds_solve.proofs.Still.{still_then}
use Rattle.spds_solve.proofs.refresh.Tables.bring.Goals as goal

pub complete_all-requires-clause-taken : goal.complete_all-requires-clause-taken
complete_all-requires-clause-taken g c = (c.args.mets.now, c.in_ok-take_all.ensures.taken)

pub returns-clause-still : goal.returns-clause-still
returns-clause-still g c = still_then c.args.self.now c.take_all.new.self c.complete_all.new.self c.in_ok-take_all.ensures.still c.in_ok-complete_all.ensures.still

pub returns-clause-taken : goal.returns-clause-taken
returns-clause-taken g c = (c.in_ok-complete_all.ensures.settled c.args.mets.now c.in_ok-take_all.ensures.taken).0

pub returns-clause-settled : goal.returns-clause-settled
returns-clause-settled g c = (c.in_ok-complete_all.ensures.settled c.args.mets.now c.in_ok-take_all.ensures.taken).1
