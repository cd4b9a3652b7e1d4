use Rattle.std.proofs.Common.{ap}
use Rattle.weight_laws.specs.RelLaws.{rel}
use Rattle.weight_laws.proofs.rel.RelWeight.extend.Goals as goal

pub returns : goal.returns
returns c = ap rel c.composed.ensures
