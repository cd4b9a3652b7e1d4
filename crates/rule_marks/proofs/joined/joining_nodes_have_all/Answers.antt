use Rattle.rule_marks.proofs.Joining.{joining_nodes}
use Rattle.rule_marks.proofs.joined.joining_nodes_have_all.Goals as goal

pub returns : goal.returns
returns g c = joining_nodes g.met.W.Weight.laws
