use Rattle.std.proofs.Common.{◌∙◌, sym, ap}
use Rattle.jim_grammar.specs.Forms.{AssignStmt, PutFieldStmt, PutCellStmt}
use Rattle.jim_stmts.specs.Leads.{third_at}
use Rattle.jim_stmts.proofs.Choices.{ok_same}
use Rattle.jim_stmts.proofs.StmtChoices.{stmt_at, name_form, form_at-name, name_form-other}
use Rattle.jim_stmts.proofs.stmts.name_first.Goals as goal

pub returns-in-Assign-clause-stmt : goal.returns-in-Assign-clause-stmt
returns-in-Assign-clause-stmt c = λ x r h l.
    let y = stmt_at AssignStmt x _ r h (form_at-name c.args.reader.now l ∙ ap (λ s. name_form s (third_at c.args.reader.now)) (sym c.second.ensures ∙ c.in-Assign.is)) in
    ok_same c.assign.result y.2 (c.assign.ensures.stmt y.0 r y.1)

pub returns-in-Dot-clause-stmt : goal.returns-in-Dot-clause-stmt
returns-in-Dot-clause-stmt c = λ x r h l.
    let y = stmt_at PutFieldStmt x _ r h (form_at-name c.args.reader.now l ∙ ap (λ s. name_form s (third_at c.args.reader.now)) (sym c.second.ensures ∙ c.in-Dot.is)) in
    c.put_field.ensures.stmt y.0 r y.1 ∙ y.2

pub returns-in_default-clause-stmt : goal.returns-in_default-clause-stmt
returns-in_default-clause-stmt c = λ x r h l.
    let y = stmt_at PutCellStmt x _ r h (form_at-name c.args.reader.now l ∙ (ap (λ s. name_form s (third_at c.args.reader.now)) (sym c.second.ensures) ∙ name_form-other _ _ c.in_default.not-Define c.in_default.not-Assign c.in_default.not-Dot)) in
    c.put_cell.ensures.stmt y.0 r y.1 ∙ y.2

pub returns-in_default-clause-rest : goal.returns-in_default-clause-rest
returns-in_default-clause-rest c = λ x r h l.
    let y = stmt_at PutCellStmt x _ r h (form_at-name c.args.reader.now l ∙ (ap (λ s. name_form s (third_at c.args.reader.now)) (sym c.second.ensures) ∙ name_form-other _ _ c.in_default.not-Define c.in_default.not-Assign c.in_default.not-Dot)) in
    c.put_cell.ensures.rest y.0 r y.1
