use Rattle.std.proofs.Common.{◌-◌, length}
use Rattle.default_turns.proofs.Staying.{IsBare}
use Rattle.default_turns.proofs.stays.add_bare.Given as goal

abbrev pub invariant-loop-at : goal.invariant-loop-at
invariant-loop-at l = IsBare l.row l.span l.hidden l.initial.stays.items l.at l.start l.stays.items

abbrev pub decreases-loop-at : goal.decreases-loop-at
decreases-loop-at l = length l.hidden - l.at
