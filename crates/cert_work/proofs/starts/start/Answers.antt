use Rattle.cert_work.specs.Added.{AreAdded}
use Rattle.cert_work.proofs.starts.start.Goals as goal

pub returns-then-not-is_node-clause-added : goal.returns-then-not-is_node-clause-added
returns-then-not-is_node-clause-added c = AreAdded.none

pub returns-in_default-clause-added : goal.returns-in_default-clause-added
returns-in_default-clause-added c = AreAdded.none

pub returns-then-not-has-clause-added : goal.returns-then-not-has-clause-added
returns-then-not-has-clause-added c = AreAdded.none
