use Rattle.rule_cells.proofs.Following.{any_derivations_kept, derivations_kept}
use Rattle.rule_cells.proofs.laws.derivations_are_kept.Goals as goal

pub returns-clause-word : goal.returns-clause-word
returns-clause-word g c = derivations_kept g.met.W.Weight.laws

pub returns-clause-any : goal.returns-clause-any
returns-clause-any g c = any_derivations_kept g.met.W.Weight.laws
