use Rattle.spds_laws.proofs.Starts.{calls_from_starts}
use Rattle.spds_laws.proofs.laws.calls_are_from_starts.Goals as goal

pub returns : goal.returns
returns c = calls_from_starts
