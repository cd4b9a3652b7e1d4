use Rattle.step_rules.proofs.Determined.{choices_one, step_one}
use Rattle.step_rules.proofs.Firsts.{run_fits}
use Rattle.step_rules.proofs.laws.steps_are_determined.Goals as goal

pub returns : goal.returns
returns c = record { step = step_one; choices = choices_one; shape = run_fits }
