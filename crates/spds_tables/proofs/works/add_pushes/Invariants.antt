use Rattle.std.proofs.Common.{[], map, take}
use Rattle.spds_tables.specs.Parts.{push_to}
use Rattle.spds_tables.specs.Tables.{AreAdded}
use Rattle.spds_tables.proofs.works.add_pushes.Given as goal

abbrev pub invariant-loop-start : goal.invariant-loop-start
invariant-loop-start l = AreAdded (map (push_to l.cells l.store) (take l.start-index l.starts)) [] l.initial.work l.work
