use Rattle.rule_cells.proofs.Extending.{any_values_extended, values_extended}
use Rattle.rule_cells.proofs.laws.values_are_extended.Goals as goal

pub returns-clause-word : goal.returns-clause-word
returns-clause-word g c = values_extended g.met.W.Weight.laws

pub returns-clause-any : goal.returns-clause-any
returns-clause-any g c = any_values_extended g.met.W.Weight.laws
