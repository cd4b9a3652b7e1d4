use Rattle.std.proofs.Common.{ap}
use Rattle.weight_rows.proofs.saturation.settled_value.Goals as goal

pub table-requires : goal.table-requires
table-requires c = ap (λ j. j.settled) c.in_ok-settle.ensures.ok
