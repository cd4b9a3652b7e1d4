use Rattle.jim_stmts.proofs.signatures.ty.Goals as goal

pub returns-clause-rest : goal.returns-clause-rest
returns-clause-rest c = λ x r h n. c.pairs-dims.ensures.rest x.1.0.items r (c.base-base.ensures.rest x.0 _ h) n x.1.0.few
