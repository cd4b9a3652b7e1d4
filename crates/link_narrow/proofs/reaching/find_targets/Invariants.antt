use Rattle.lists.specs.Grown.{IsGrownBy}
use Rattle.link_narrow.specs.Reaching.{StaysAmong}
use Rattle.link_narrow.proofs.reaching.find_targets.Given as goal

abbrev pub invariant-loop-target : goal.invariant-loop-target
invariant-loop-target l = IsGrownBy (StaysAmong l.named l.place.method l.place.index l.mode l.targets l.target-index) l.fn.found.keys l.found.keys
