use Rattle.rule_cells.proofs.Extending.{any_derivations_extended, derivations_extended}
use Rattle.rule_cells.proofs.laws.derivations_are_extended.Goals as goal

pub returns-clause-word : goal.returns-clause-word
returns-clause-word g c = derivations_extended g.met.W.Weight.laws

pub returns-clause-any : goal.returns-clause-any
returns-clause-any g c = any_derivations_extended g.met.W.Weight.laws
