use Rattle.std.proofs.Common.{take}
use Rattle.spds_nodes.specs.Positions.{var_of}
use Rattle.site_events.specs.Passed.{AreSettledIn}
use Rattle.site_events.proofs.settled.are_settled.Given as goal

abbrev pub invariant-loop-target : goal.invariant-loop-target
invariant-loop-target l = AreSettledIn l.linked (take l.target-index l.targets) (var_of l.position)
