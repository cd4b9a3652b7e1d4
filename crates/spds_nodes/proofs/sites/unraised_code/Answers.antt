use Rattle.spds_nodes.proofs.Statements.{IfNone-weaker}
use Rattle.spds_nodes.proofs.sites.unraised_code.Goals as goal

pub returns-clause-none : goal.returns-clause-none
returns-clause-none c = IfNone-weaker c.code_at.result _ _ (λ none code unraised at. none code at) c.code_at.ensures.none
