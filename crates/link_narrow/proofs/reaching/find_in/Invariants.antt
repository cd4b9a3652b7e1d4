use Rattle.lists.specs.Grown.{IsGrownBy}
use Rattle.link_narrow.specs.Reaching.{StaysBefore}
use Rattle.link_narrow.proofs.reaching.find_in.Given as goal

abbrev pub invariant-loop-at : goal.invariant-loop-at
invariant-loop-at l = IsGrownBy (StaysBefore l.named l.method l.codes l.at) l.fn.found.keys l.found.keys
