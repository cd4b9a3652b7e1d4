use Rattle.track_systems.proofs.Leading.{any_values_leading, values_leading}
use Rattle.weight_laws.proofs.Meaning.{meaning}
use Rattle.track_systems.proofs.laws.values_lead.Goals as goal

pub returns-clause-under : goal.returns-clause-under
returns-clause-under c = values_leading meaning

pub returns-clause-any : goal.returns-clause-any
returns-clause-any c = any_values_leading meaning
