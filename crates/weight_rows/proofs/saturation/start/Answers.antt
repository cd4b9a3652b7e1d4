use Rattle.std.proofs.Common.{[], sym}
use Rattle.weight_rows.proofs.saturation.start.Goals as goal

pub add_start-requires : goal.add_start-requires
add_start-requires c = record { led = ([], sym c.requires) }
