use Rattle.auto_table.proofs.Weighed.{blank}
use Rattle.auto_table.proofs.Whole.{table_none}
use Rattle.auto_table.proofs.table.Table.new.Goals as goal

pub invariant_of-result : goal.invariant_of-result
invariant_of-result g c = table_none g.W.Weight.domain g.met.W.Weight.laws _ _ _ _ _ c.new.ensures c.new-2.ensures.rows c.new-3.ensures.rows c.new-2.ensures.keys c.new-2.ensures.places c.new-3.ensures.keys c.new-3.ensures.places

pub returns : goal.returns
returns g c = blank g.W.Weight.domain _ c.new.ensures
