-- The numbers by which keys are spread.
use Rattle.std.specs.Prelude.{ℕ, ◌+◌, ◌*◌, ◌%◌, ◌^◌}
use Rattle.auto_table.specs.declared.entry.Entry.{Entry}
use Rattle.auto_table.specs.declared.entry.Entry.TheVariants.{Base, Pushed}
use Rattle.auto_table.specs.declared.spot.Spot.{Spot}
use Rattle.auto_table.specs.declared.spot.Joint.{Joint}

abbrev pub entry_spread : Entry → ℕ
entry_spread (Base base) = base
entry_spread (Pushed node mark) = node * 2 ^ 32 + mark

abbrev pub spot_spread : Spot → ℕ
spot_spread s = s.row * 2 ^ 32 + s.node

abbrev pub joint_spread : Joint → ℕ
joint_spread j = (entry_spread j.parent + (j.row * 14029467366897019727) % 2 ^ 64) % 2 ^ 64
