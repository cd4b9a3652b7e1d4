use Rattle.rule_marks.proofs.Joining.{any_values_joined, values_joined}
use Rattle.rule_marks.proofs.joined.values_are_joined.Goals as goal

pub returns-clause-word : goal.returns-clause-word
returns-clause-word g c = values_joined g.met.W.Weight.laws

pub returns-clause-any : goal.returns-clause-any
returns-clause-any g c = any_values_joined g.met.W.Weight.laws
