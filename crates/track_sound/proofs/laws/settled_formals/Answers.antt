use Rattle.track_sound.proofs.Holding.{formals_held}
use Rattle.track_sound.proofs.laws.settled_formals.Goals as goal

pub returns : goal.returns
returns c = formals_held c.args.linked.now c.requires.well c.requires.covered
