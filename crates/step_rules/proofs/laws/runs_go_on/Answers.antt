use Rattle.step_rules.proofs.Going.{runs_begin, runs_go_on}
use Rattle.step_rules.proofs.laws.runs_go_on.Goals as goal

pub returns : goal.returns
returns c = record { begin = runs_begin; go_on = runs_go_on }
