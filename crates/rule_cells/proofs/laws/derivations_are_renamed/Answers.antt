use Rattle.rule_cells.proofs.Renaming.{any_derivations_renamed, derivations_renamed}
use Rattle.rule_cells.proofs.laws.derivations_are_renamed.Goals as goal

pub returns-clause-word : goal.returns-clause-word
returns-clause-word g c = derivations_renamed g.W.Weight.domain

pub returns-clause-any : goal.returns-clause-any
returns-clause-any g c = any_derivations_renamed g.W.Weight.domain
