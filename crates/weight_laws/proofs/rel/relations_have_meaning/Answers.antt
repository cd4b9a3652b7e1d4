use Rattle.weight_laws.proofs.Meaning.{meaning}
use Rattle.weight_laws.proofs.rel.relations_have_meaning.Goals as goal

pub returns : goal.returns
returns c = meaning
