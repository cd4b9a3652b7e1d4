use Rattle.cert_work.specs.Added.{AreAdded}
use Rattle.cert_work.proofs.along.along_calls.Goals as goal

pub returns-else-eq-clause-added : goal.returns-else-eq-clause-added
returns-else-eq-clause-added c = AreAdded.none
