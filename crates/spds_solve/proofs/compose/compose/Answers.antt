use Rattle.spds_solve.specs.Composing.{AreJoined}
use Rattle.spds_solve.proofs.Composing.{joined_more}
use Rattle.spds_solve.proofs.compose.compose.Goals as goal

pub loop-ways-init : goal.loop-ways-init
loop-ways-init c = record { joined = AreJoined.none; composed = c.requires }

pub loop-ways-preserved : goal.loop-ways-preserved
loop-ways-preserved c = record { joined = joined_more c.loop-ways.invariant.joined c.in_ok-step.ensures.joined; composed = c.in_ok-step.ensures.composed }
