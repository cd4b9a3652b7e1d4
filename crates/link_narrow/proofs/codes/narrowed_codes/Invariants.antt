use Rattle.link_narrow.proofs.Filled.{IsFilled}
use Rattle.link_narrow.proofs.codes.narrowed_codes.Given as goal

abbrev pub invariant-loop-at : goal.invariant-loop-at
invariant-loop-at l = IsFilled l.named l.method l.at l.codes l.new.items
