use Rattle.cert_work.specs.Added.{AreAdded}
use Rattle.cert_work.proofs.popping.pop_if.Goals as goal

pub returns-clause-added : goal.returns-clause-added
returns-clause-added c = AreAdded.none
