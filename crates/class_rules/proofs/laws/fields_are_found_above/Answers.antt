use Rattle.class_rules.proofs.LawFacts.{look_up_finds, look_up_one}
use Rattle.class_rules.proofs.laws.fields_are_found_above.Goals as goal

pub returns-clause-found : goal.returns-clause-found
returns-clause-found c = look_up_finds

pub returns-clause-one : goal.returns-clause-one
returns-clause-one c = look_up_one
