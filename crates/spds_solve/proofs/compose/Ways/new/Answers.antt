use Rattle.std.proofs.Common.{refl}
use Rattle.spds_solve.proofs.Composing.{composed_none}
use Rattle.spds_solve.proofs.compose.Ways.new.Goals as goal

pub returns : goal.returns
returns c = composed_none _ refl c.new.ensures c.new-2.ensures
