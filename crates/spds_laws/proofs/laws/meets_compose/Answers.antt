use Rattle.spds_laws.proofs.Compose.{meets_composed}
use Rattle.spds_laws.proofs.laws.meets_compose.Goals as goal

pub returns : goal.returns
returns c = meets_composed
