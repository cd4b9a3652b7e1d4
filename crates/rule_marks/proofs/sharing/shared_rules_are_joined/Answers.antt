use Rattle.rule_marks.proofs.Products.{shared_rules_joined}
use Rattle.rule_marks.proofs.sharing.shared_rules_are_joined.Goals as goal

pub returns : goal.returns
returns g c = shared_rules_joined g.met.W.Weight.laws
