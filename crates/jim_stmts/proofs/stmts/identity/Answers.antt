use Rattle.std.proofs.Common.{◌∙◌, sym, ap}
use Rattle.jim_grammar.specs.Forms.{ThisStmt, ParamStmt, CaughtStmt}
use Rattle.jim_stmts.proofs.StmtChoices.{stmt_at, identity_form, form_at-identity, identity_form-other}
use Rattle.jim_stmts.proofs.stmts.identity.Goals as goal

pub returns-in-This-clause-stmt : goal.returns-in-This-clause-stmt
returns-in-This-clause-stmt c = λ x r h l d.
    let y = stmt_at ThisStmt x _ r h (form_at-identity c.args.reader.now l d ∙ ap identity_form (sym c.third.ensures ∙ c.in-This.is)) in
    c.this.ensures.stmt y.0 r y.1 ∙ y.2

pub returns-in-Parameter-clause-stmt : goal.returns-in-Parameter-clause-stmt
returns-in-Parameter-clause-stmt c = λ x r h l d.
    let y = stmt_at ParamStmt x _ r h (form_at-identity c.args.reader.now l d ∙ ap identity_form (sym c.third.ensures ∙ c.in-Parameter.is)) in
    c.param.ensures.stmt y.0 r y.1 ∙ y.2

pub returns-in_default-clause-stmt : goal.returns-in_default-clause-stmt
returns-in_default-clause-stmt c = λ x r h l d.
    let y = stmt_at CaughtStmt x _ r h (form_at-identity c.args.reader.now l d ∙ (ap identity_form (sym c.third.ensures) ∙ identity_form-other _ c.in_default.not-This c.in_default.not-Parameter)) in
    c.caught.ensures.stmt y.0 r y.1 ∙ y.2

pub returns-in_default-clause-rest : goal.returns-in_default-clause-rest
returns-in_default-clause-rest c = λ x r h l d.
    let y = stmt_at CaughtStmt x _ r h (form_at-identity c.args.reader.now l d ∙ (ap identity_form (sym c.third.ensures) ∙ identity_form-other _ c.in_default.not-This c.in_default.not-Parameter)) in
    c.caught.ensures.rest y.0 r y.1
