use Rattle.refine_rules.proofs.Whole.{rounds_keep}
use Rattle.refine_rules.proofs.laws.refined_keeps_runs.Goals as goal

pub returns : goal.returns
returns c = rounds_keep
