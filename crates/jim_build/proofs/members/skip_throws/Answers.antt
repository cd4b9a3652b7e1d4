use Rattle.jim_build.proofs.Parts.{throws_names}
use Rattle.jim_build.proofs.members.skip_throws.Goals as goal

pub returns-in_ok-names-clause-rest : goal.returns-in_ok-names-clause-rest
returns-in_ok-names-clause-rest c = λ x r h n k.
    let t = throws_names x _ r h n (c.is_at.ensures.0 c.if-is_at.true) in c.in_ok-names.ensures.rest t.1 r (c.skip.ensures.rest _ _ t.2) k
