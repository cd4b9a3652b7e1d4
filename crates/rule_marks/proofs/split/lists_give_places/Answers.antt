use Rattle.rule_marks.proofs.Placing.{lists_places}
use Rattle.rule_marks.proofs.split.lists_give_places.Goals as goal

pub returns : goal.returns
returns g c = lists_places g.W.Weight.domain
