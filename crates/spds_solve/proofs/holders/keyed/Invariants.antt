use Rattle.std.proofs.Common.{◌≡◌, map, take}
use Rattle.spds_solve.specs.Holders.{keyed_by_cell}
use Rattle.spds_solve.proofs.holders.keyed.Given as goal

abbrev pub invariant-loop-arrival : goal.invariant-loop-arrival
invariant-loop-arrival l = l.keyed.items ≡ map keyed_by_cell (take l.arrival-index l.arrivals)
