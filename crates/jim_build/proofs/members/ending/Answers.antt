use Rattle.std.proofs.Common.{refl, sym, ◌∙◌}
use Rattle.std.proofs.lemmas.Bool.{false≢true}
use Rattle.jim_build.proofs.Parts.{ending_none, ending_body}
use Rattle.jim_build.proofs.members.ending.Goals as goal

pub returns-then-is_at-clause-body : goal.returns-then-is_at-clause-body
returns-then-is_at-clause-body c = λ x r h. sym (ending_none x _ r h (c.is_at.ensures.0 c.if-is_at.true)).2

pub returns-then-is_at-clause-rest : goal.returns-then-is_at-clause-rest
returns-then-is_at-clause-rest c = λ x r h.
    let none = ending_none x _ r h (c.is_at.ensures.0 c.if-is_at.true) in c.skip.ensures.rest _ _ none.1

pub returns-clause-body : goal.returns-clause-body
returns-clause-body c = λ x r h.
    let some = ending_body x _ r h (λ e. false≢true (sym c.if-is_at.false ∙ c.is_at.ensures.1 e)) in
    rw (some.2, c.in_ok-body.ensures.body some.0 r some.1) refl

pub returns-clause-rest : goal.returns-clause-rest
returns-clause-rest c = λ x r h.
    let some = ending_body x _ r h (λ e. false≢true (sym c.if-is_at.false ∙ c.is_at.ensures.1 e)) in
    c.in_ok-body.ensures.rest some.0 r some.1
