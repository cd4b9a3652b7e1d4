use Rattle.std.proofs.Common.{◌-◌, length}
use Rattle.call_side.proofs.Decoding.{IsDecodedTo}
use Rattle.call_side.proofs.decoded.decoded.Given as goal

abbrev pub invariant-loop-at : goal.invariant-loop-at
invariant-loop-at l = IsDecodedTo l.word l.at l.plain.items

abbrev pub decreases-loop-at : goal.decreases-loop-at
decreases-loop-at l = length l.word - l.at
