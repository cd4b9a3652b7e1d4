use Rattle.class_rules.proofs.Selected.{selection_finds, selection_one}
use Rattle.class_rules.proofs.laws.methods_are_selected_above.Goals as goal

pub returns-clause-found : goal.returns-clause-found
returns-clause-found c = selection_finds

pub returns-clause-one : goal.returns-clause-one
returns-clause-one c = selection_one
