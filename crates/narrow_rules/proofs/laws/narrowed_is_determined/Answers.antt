use Rattle.narrow_rules.proofs.Once.{narrowed_once}
use Rattle.narrow_rules.proofs.laws.narrowed_is_determined.Goals as goal

pub returns : goal.returns
returns c = narrowed_once
