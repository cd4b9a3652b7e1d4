use Rattle.spds_laws.proofs.Compose.{words_composed}
use Rattle.spds_laws.proofs.laws.words_compose.Goals as goal

pub returns : goal.returns
returns c = words_composed
