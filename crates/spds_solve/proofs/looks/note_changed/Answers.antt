use Rattle.spds_solve.proofs.Noting.{keeps_self}
use Rattle.spds_solve.proofs.looks.note_changed.Goals as goal

pub returns-then-not-index-clause-keeps : goal.returns-then-not-index-clause-keeps
returns-then-not-index-clause-keeps c = keeps_self c.args.known.now
