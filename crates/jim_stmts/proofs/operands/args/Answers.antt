use Rattle.std.proofs.Common.{◌≡◌, ◌∙◌, ap, IsTrue, IfOk, subst}
use Rattle.jim_grammar.specs.Expressions.{Tree, Opt}
use Rattle.jim_grammar.specs.Grammar.{imms}
use Rattle.jim_stmts.specs.Leads.{lead_at}
use Rattle.jim_stmts.specs.Meanings.{args_of}
use Rattle.jim_stmts.proofs.Choices.{is_there}
use Rattle.jim_stmts.proofs.operands.args.Goals as goal

pub returns-clause-args : goal.returns-clause-args
returns-clause-args c = λ x r h p.
    let m = is_there imms x _ r h (λ e. let o : IsTrue c.is_at.result = c.is_at.ensures.1 (ap lead_at e ∙ p) in cc (o, c.if-is_at.false)) in
    subst (λ (z : Tree (Opt imms)). IfOk c.imms.result (λ found. found ≡ args_of z)) m.1 (c.imms.ensures.imms m.0 r m.2 (λ e. cc))
