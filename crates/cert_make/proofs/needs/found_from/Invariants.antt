use Rattle.std.proofs.Common.{◌-◌, ◌^◌}
use Rattle.cert_make.proofs.Found.{IsFound}
use Rattle.cert_make.proofs.needs.found_from.Given as goal

abbrev pub invariant-loop-at : goal.invariant-loop-at
invariant-loop-at l = IsFound l.lines l.claim l.at l.found.keys

abbrev pub decreases-loop-at : goal.decreases-loop-at
decreases-loop-at l = 2 ^ 32 - l.at
