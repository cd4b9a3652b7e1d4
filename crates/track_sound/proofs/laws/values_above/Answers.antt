use Rattle.track_sound.proofs.Sounding.{all_are_sent, values_are_above, weights_are_above}
use Rattle.track_sound.proofs.laws.values_above.Goals as goal

pub returns-clause-slots : goal.returns-clause-slots
returns-clause-slots c = values_are_above c.args.linked.now c.requires.well c.requires.covered

pub returns-clause-all : goal.returns-clause-all
returns-clause-all c = all_are_sent c.args.linked.now c.requires.well c.requires.covered

pub returns-clause-weights : goal.returns-clause-weights
returns-clause-weights c = weights_are_above c.args.linked.now c.requires.well c.requires.covered
