use Rattle.std.proofs.Common.{take}
use Rattle.spds_solve.specs.Searches.{AreStill, AreTaken}
use Rattle.spds_solve.proofs.refresh.Tables.take_all.Given as goal

abbrev pub invariant-loop-at : goal.invariant-loop-at
invariant-loop-at l = record {
  still : AreStill l.initial.self l.self;
  taken : AreTaken l.parts (take l.at l.mets) l.self;
}
