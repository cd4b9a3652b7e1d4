use Rattle.std.proofs.Common.{◌≡◌, ◌∙◌, ap, IsTrue, IfOk, subst}
use Rattle.jim_grammar.specs.Expressions.{Tree, Opt}
use Rattle.jim_grammar.specs.Grammar.{types}
use Rattle.jim_stmts.specs.Leads.{lead_at}
use Rattle.jim_stmts.specs.Meanings.{maybe_types_of}
use Rattle.jim_stmts.proofs.Choices.{is_there}
use Rattle.jim_stmts.proofs.signatures.maybe_types.Goals as goal

pub returns-clause-types : goal.returns-clause-types
returns-clause-types c = λ x r h p.
    let m = is_there types x _ r h (λ e. let o : IsTrue c.is_at.result = c.is_at.ensures.1 (ap lead_at e ∙ p) in cc (o, c.if-is_at.false)) in
    subst (λ (z : Tree (Opt types)). IfOk c.types.result (λ found. found ≡ maybe_types_of z)) m.1 (c.types.ensures.types m.0 r m.2 (λ e. cc) (λ e. cc))

pub returns-clause-rest : goal.returns-clause-rest
returns-clause-rest c = λ x r h p.
    let m = is_there types x _ r h (λ e. let o : IsTrue c.is_at.result = c.is_at.ensures.1 (ap lead_at e ∙ p) in cc (o, c.if-is_at.false)) in
    c.types.ensures.rest m.0 r m.2 (λ e. cc) (λ e. cc)
