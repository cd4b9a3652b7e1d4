use Rattle.rule_marks.proofs.Splitting.{any_values_split, values_split}
use Rattle.rule_marks.proofs.split.values_are_split.Goals as goal

pub returns-clause-word : goal.returns-clause-word
returns-clause-word g c = values_split g.met.W.Weight.laws

pub returns-clause-any : goal.returns-clause-any
returns-clause-any g c = any_values_split g.met.W.Weight.laws
