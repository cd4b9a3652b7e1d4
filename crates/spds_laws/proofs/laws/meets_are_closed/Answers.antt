use Rattle.spds_laws.proofs.Rounds.{meets_closed}
use Rattle.spds_laws.proofs.laws.meets_are_closed.Goals as goal

pub returns : goal.returns
returns c = meets_closed
