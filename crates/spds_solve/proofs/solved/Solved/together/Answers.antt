use Rattle.std.proofs.lemmas.Result.{IfOk-weaker}
use Rattle.spds_solve.proofs.solved.Solved.together.Goals as goal

pub returns : goal.returns
returns c = IfOk-weaker c.one_string.result _ _ (λ yes tells p q d o n m solved site a b. tells p q d o o n m solved site site a b) c.one_string.ensures
