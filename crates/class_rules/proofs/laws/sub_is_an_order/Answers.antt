use Rattle.class_rules.specs.Paths.{here}
use Rattle.class_rules.proofs.LawFacts.{sub_transitive}
use Rattle.class_rules.proofs.laws.sub_is_an_order.Goals as goal

pub returns-clause-reflexive : goal.returns-clause-reflexive
returns-clause-reflexive c = λ rows a. here

pub returns-clause-transitive : goal.returns-clause-transitive
returns-clause-transitive c = sub_transitive
