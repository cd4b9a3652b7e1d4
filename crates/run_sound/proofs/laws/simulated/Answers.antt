use Rattle.run_sound.proofs.Simulating.{constants_simulated, runs_agree, runs_answered, runs_shared, runs_simulated, statics_simulated}
use Rattle.run_sound.proofs.laws.simulated.Goals as goal

pub returns-clause-agrees : goal.returns-clause-agrees
returns-clause-agrees c = runs_agree c.args.linked.now c.requires.well c.requires.covered

pub returns-clause-simulated : goal.returns-clause-simulated
returns-clause-simulated c = runs_simulated c.args.linked.now c.requires.well c.requires.covered

pub returns-clause-answered : goal.returns-clause-answered
returns-clause-answered c = runs_answered c.args.linked.now c.requires.well c.requires.covered

pub returns-clause-shared : goal.returns-clause-shared
returns-clause-shared c = runs_shared c.args.linked.now c.requires.well c.requires.covered

pub returns-clause-statics : goal.returns-clause-statics
returns-clause-statics c = statics_simulated c.args.linked.now c.requires.well c.requires.covered

pub returns-clause-constants : goal.returns-clause-constants
returns-clause-constants c = constants_simulated c.args.linked.now c.requires.well c.requires.covered
