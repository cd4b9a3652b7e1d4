use Rattle.std.proofs.Common.{take}
use Rattle.spds_solve.proofs.Holding.{AreAsked}
use Rattle.spds_solve.proofs.solved.Solved.holding.Given as goal

abbrev pub invariant-loop-site : goal.invariant-loop-site
invariant-loop-site l = AreAsked l.self l.node (take l.site-index l.site-items) l.found.keys
