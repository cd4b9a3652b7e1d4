use Rattle.std.proofs.Common.{◌∙◌, sym}
use Rattle.jim_text.specs.declared.lead.Lead.TheVariants as lead
use Rattle.jim_grammar.specs.Forms.{PutStaticStmt, CallStmt, IfStmt, GotoStmt, SwitchStmt, ReturnStmt, ThrowStmt, MonitorStmt}
use Rattle.jim_stmts.proofs.Choices.{ok_same}
use Rattle.jim_stmts.proofs.StmtChoices.{stmt_at, form_at-first, form_at-switch, form_at-monitor, stmt_form-other}
use Rattle.jim_stmts.proofs.stmts.stmt.Goals as goal

pub returns-in-Less-clause-stmt : goal.returns-in-Less-clause-stmt
returns-in-Less-clause-stmt c = λ x r h.
    let y = stmt_at PutStaticStmt x _ r h (form_at-first lead.Less c.args.reader.now (sym c.lead.ensures ∙ c.in-Less.is)) in
    c.put_static.ensures.stmt y.0 r y.1 ∙ y.2

pub returns-in-If-clause-stmt : goal.returns-in-If-clause-stmt
returns-in-If-clause-stmt c = λ x r h.
    let y = stmt_at IfStmt x _ r h (form_at-first lead.If c.args.reader.now (sym c.lead.ensures ∙ c.in-If.is)) in
    c.branch-reader.ensures.stmt y.0 r y.1 ∙ y.2

pub returns-in-Goto-clause-stmt : goal.returns-in-Goto-clause-stmt
returns-in-Goto-clause-stmt c = λ x r h.
    let y = stmt_at GotoStmt x _ r h (form_at-first lead.Goto c.args.reader.now (sym c.lead.ensures ∙ c.in-Goto.is)) in
    c.goto.ensures.stmt y.0 r y.1 ∙ y.2

pub returns-in-Return-clause-stmt : goal.returns-in-Return-clause-stmt
returns-in-Return-clause-stmt c = λ x r h.
    let y = stmt_at ReturnStmt x _ r h (form_at-first lead.Return c.args.reader.now (sym c.lead.ensures ∙ c.in-Return.is)) in
    c.return_value.ensures.stmt y.0 r y.1 ∙ y.2

pub returns-in-Throw-clause-stmt : goal.returns-in-Throw-clause-stmt
returns-in-Throw-clause-stmt c = λ x r h.
    let y = stmt_at ThrowStmt x _ r h (form_at-first lead.Throw c.args.reader.now (sym c.lead.ensures ∙ c.in-Throw.is)) in
    c.throw.ensures.stmt y.0 r y.1 ∙ y.2

pub returns-in_default-clause-stmt : goal.returns-in_default-clause-stmt
returns-in_default-clause-stmt c = λ x r h.
    let y = stmt_at CallStmt x _ r h (form_at-first _ c.args.reader.now (sym c.lead.ensures) ∙ stmt_form-other _ _ _ c.in_default.not-Name c.in_default.not-Less c.in_default.not-If c.in_default.not-Goto c.in_default.not-TableSwitch c.in_default.not-LookupSwitch c.in_default.not-Return c.in_default.not-Ret c.in_default.not-Throw c.in_default.not-EnterMonitor c.in_default.not-ExitMonitor c.in_default.not-Nop c.in_default.not-Breakpoint) in
    ok_same c.call.result y.2 (c.call.ensures.stmt y.0 r y.1)

pub returns-in_default-clause-rest : goal.returns-in_default-clause-rest
returns-in_default-clause-rest c = λ x r h.
    let y = stmt_at CallStmt x _ r h (form_at-first _ c.args.reader.now (sym c.lead.ensures) ∙ stmt_form-other _ _ _ c.in_default.not-Name c.in_default.not-Less c.in_default.not-If c.in_default.not-Goto c.in_default.not-TableSwitch c.in_default.not-LookupSwitch c.in_default.not-Return c.in_default.not-Ret c.in_default.not-Throw c.in_default.not-EnterMonitor c.in_default.not-ExitMonitor c.in_default.not-Nop c.in_default.not-Breakpoint) in
    c.call.ensures.rest y.0 r y.1

pub returns-in-TableSwitch-clause-stmt : goal.returns-in-TableSwitch-clause-stmt
returns-in-TableSwitch-clause-stmt c = λ x r h.
    let y = stmt_at SwitchStmt x _ r h (form_at-switch _ c.args.reader.now (sym c.lead.ensures) c.in-TableSwitch.is) in
    ok_same c.switch.result y.2 (c.switch.ensures.stmt y.0 r y.1)

pub returns-in-EnterMonitor-clause-stmt : goal.returns-in-EnterMonitor-clause-stmt
returns-in-EnterMonitor-clause-stmt c = λ x r h.
    let y = stmt_at MonitorStmt x _ r h (form_at-monitor _ c.args.reader.now (sym c.lead.ensures) c.in-EnterMonitor.is) in
    c.monitor.ensures.stmt y.0 r y.1 ∙ y.2
