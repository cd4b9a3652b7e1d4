use Rattle.std.proofs.Common.{[], map, take}
use Rattle.spds_tables.specs.Parts.{field_start}
use Rattle.spds_tables.specs.Tables.{AreAdded}
use Rattle.spds_tables.proofs.works.add_field_starts.Given as goal

abbrev pub invariant-loop-start : goal.invariant-loop-start
invariant-loop-start l = AreAdded [] (map (field_start l.cells) (take l.start-index l.starts)) l.initial.work l.work
