use Rattle.rule_marks.proofs.Joining.{any_derivations_joined, derivations_joined}
use Rattle.rule_marks.proofs.joined.derivations_are_joined.Goals as goal

pub returns-clause-word : goal.returns-clause-word
returns-clause-word g c = derivations_joined g.met.W.Weight.laws

pub returns-clause-any : goal.returns-clause-any
returns-clause-any g c = any_derivations_joined g.met.W.Weight.laws
