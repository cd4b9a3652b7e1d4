use Rattle.run_covers.proofs.Whole.{links_covered}
use Rattle.run_covers.proofs.laws.links_are_covered.Goals as goal

pub returns : goal.returns
returns c = links_covered
