use Rattle.class_rules.proofs.LawFacts.{path_finds, path_one}
use Rattle.class_rules.proofs.laws.methods_are_found_above.Goals as goal

pub returns-clause-found : goal.returns-clause-found
returns-clause-found c = path_finds

pub returns-clause-one : goal.returns-clause-one
returns-clause-one c = path_one
