use Rattle.std.proofs.Common.{take}
use Rattle.link_narrow.specs.Names.{AreSpots}
use Rattle.link_narrow.proofs.names.spots_of.Given as goal

abbrev pub invariant-loop-one : goal.invariant-loop-one
invariant-loop-one l = AreSpots (take l.one-index l.kept) l.spots.keys
