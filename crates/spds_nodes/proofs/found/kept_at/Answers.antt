use Rattle.spds_nodes.proofs.Statements.{none_exactly}
use Rattle.spds_nodes.proofs.found.kept_at.Goals as goal

pub returns-in_err-code_at : goal.returns-in_err-code_at
returns-in_err-code_at c =
    λ v. none_exactly c.from_residual.result v _ c.from_residual.ensures (λ has. c.in_err-code_at.ensures.none has.0.code has.0.at)
