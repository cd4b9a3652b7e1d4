use Rattle.std.proofs.Common.{◌∙◌, IsTrue}
use Rattle.jim_stmts.proofs.Choices.{outcome_type}
use Rattle.jim_stmts.proofs.signatures.outcome.Goals as goal

pub returns-clause-ty : goal.returns-clause-ty
returns-clause-ty c = λ x r h n.
    let t = outcome_type x _ r h (λ l. let o : IsTrue c.is_at.result = c.is_at.ensures.1 l in cc (o, c.if-is_at.false)) in c.ty.ensures.ty t.0 r t.1 n ∙ t.2

pub returns-clause-rest : goal.returns-clause-rest
returns-clause-rest c = λ x r h n.
    let t = outcome_type x _ r h (λ l. let o : IsTrue c.is_at.result = c.is_at.ensures.1 l in cc (o, c.if-is_at.false)) in c.ty.ensures.rest t.0 r t.1 n
