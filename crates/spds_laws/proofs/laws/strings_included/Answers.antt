use Rattle.spds_laws.proofs.Compose.{strings_within}
use Rattle.spds_laws.proofs.laws.strings_included.Goals as goal

pub returns : goal.returns
returns c = strings_within
