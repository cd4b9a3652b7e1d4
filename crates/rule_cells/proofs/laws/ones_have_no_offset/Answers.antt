use Rattle.rule_cells.proofs.Extending.{ones_without_offset}
use Rattle.rule_cells.proofs.laws.ones_have_no_offset.Goals as goal

pub returns : goal.returns
returns g c = ones_without_offset g.met.W.Weight.laws
