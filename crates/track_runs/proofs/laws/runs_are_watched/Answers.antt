use Rattle.track_runs.proofs.Watching.{runs_watched}
use Rattle.track_runs.proofs.laws.runs_are_watched.Goals as goal

pub returns : goal.returns
returns c = runs_watched
