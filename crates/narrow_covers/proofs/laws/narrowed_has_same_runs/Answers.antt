use Rattle.narrow_covers.proofs.Whole.{narrowed_same_runs}
use Rattle.narrow_covers.proofs.laws.narrowed_has_same_runs.Goals as goal

pub returns : goal.returns
returns c = narrowed_same_runs
