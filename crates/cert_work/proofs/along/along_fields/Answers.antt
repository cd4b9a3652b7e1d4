use Rattle.cert_work.specs.Added.{AreAdded}
use Rattle.cert_work.proofs.along.along_fields.Goals as goal

pub returns-in-Load-clause-added : goal.returns-in-Load-clause-added
returns-in-Load-clause-added c = AreAdded.none
