use Rattle.run_origins.proofs.Machine.{steps_originate}
use Rattle.run_origins.proofs.laws.steps_have_origins.Goals as goal

pub returns : goal.returns
returns c = steps_originate c.args.linked.now c.requires.well c.requires.covered
