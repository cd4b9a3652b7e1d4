use Rattle.refine_rules.proofs.Once.{rounds_determined}
use Rattle.refine_rules.proofs.laws.refined_is_determined.Goals as goal

pub returns : goal.returns
returns c = rounds_determined
