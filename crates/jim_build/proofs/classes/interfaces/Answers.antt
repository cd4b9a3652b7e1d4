use Rattle.jim_build.proofs.Parts.{implements_names}
use Rattle.jim_build.proofs.classes.interfaces.Goals as goal

pub returns-clause-interfaces : goal.returns-clause-interfaces
returns-clause-interfaces c = λ x r h n k.
    let i = implements_names x _ r h n (c.is_at.ensures.0 c.if-not-is_at.false) in
    rw i.3 (c.names.ensures.names i.1 r (c.skip.ensures.rest _ _ i.2) k)

pub returns-clause-rest : goal.returns-clause-rest
returns-clause-rest c = λ x r h n k.
    let i = implements_names x _ r h n (c.is_at.ensures.0 c.if-not-is_at.false) in c.names.ensures.rest i.1 r (c.skip.ensures.rest _ _ i.2) k
