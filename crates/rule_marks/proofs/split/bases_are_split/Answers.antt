use Rattle.rule_marks.proofs.Splitting.{bases_are_split, bases_led_still}
use Rattle.rule_marks.proofs.split.bases_are_split.Goals as goal

pub returns-clause-words : goal.returns-clause-words
returns-clause-words g c = bases_are_split g.met.W.Weight.laws

pub returns-clause-led : goal.returns-clause-led
returns-clause-led g c = bases_led_still g.met.W.Weight.laws
