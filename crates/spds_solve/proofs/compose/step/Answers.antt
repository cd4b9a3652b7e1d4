use Rattle.spds_solve.proofs.Composing.{joined_more}
use Rattle.spds_solve.proofs.compose.step.Goals as goal

pub returns-in_ok-begin-clause-joined : goal.returns-in_ok-begin-clause-joined
returns-in_ok-begin-clause-joined c = joined_more c.in_ok-pass.ensures.joined c.in_ok-begin.ensures.joined
