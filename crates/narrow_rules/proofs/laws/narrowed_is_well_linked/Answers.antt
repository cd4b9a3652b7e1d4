use Rattle.narrow_rules.proofs.Well.{narrowed_form, narrowed_well}
use Rattle.narrow_rules.proofs.laws.narrowed_is_well_linked.Goals as goal

pub returns-clause-well : goal.returns-clause-well
returns-clause-well c = narrowed_well

pub returns-clause-form : goal.returns-clause-form
returns-clause-form c = narrowed_form
