use Rattle.run_covers.proofs.Whole.{links_found}
use Rattle.run_covers.proofs.laws.resolved_methods_are_linked.Goals as goal

pub returns : goal.returns
returns c = links_found
