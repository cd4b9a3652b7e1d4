use Rattle.std.proofs.Common.{◌∙◌, sym, ap}
use Rattle.jim_ast.specs.declared.syntax.Expr.TheVariants as exprs
use Rattle.jim_stmts.specs.Leads.{lead_at}
use Rattle.jim_stmts.specs.Meanings.{is_division}
use Rattle.jim_stmts.proofs.ExprChoices.{operand_alone, operand_instance, operand_operator}
use Rattle.jim_stmts.proofs.exprs.operand_first.Goals as goal

pub returns-in-Semicolon-clause-expr : goal.returns-in-Semicolon-clause-expr
returns-in-Semicolon-clause-expr c = λ x r h k p. (operand_alone x _ r _ _ h k p c.imm-operand.ensures.imm c.imm-operand.ensures.rest (sym c.lead.ensures ∙ c.in-Semicolon.is)).0

pub returns-in-InstanceOf-clause-rest : goal.returns-in-InstanceOf-clause-rest
returns-in-InstanceOf-clause-rest c = λ x r h k p.
    let t = operand_instance x _ r _ _ h k p c.imm-operand.ensures.imm c.imm-operand.ensures.rest (sym c.lead.ensures ∙ c.in-InstanceOf.is) in
    c.ty.ensures.rest t.1 r (c.skip.ensures.rest _ _ t.2) (λ e. cc)

pub returns-in_default-clause-expr : goal.returns-in_default-clause-expr
returns-in_default-clause-expr c = λ x r h k p.
    let t = operand_operator x _ r _ _ h k p c.imm-operand.ensures.imm c.imm-operand.ensures.rest (λ e. c.in_default.not-Semicolon (c.lead.ensures ∙ e)) (λ e. c.in_default.not-InstanceOf (c.lead.ensures ∙ e)) in
    ap exprs.Numeric (c.divides.ensures ∙ ap is_division (c.lead.ensures ∙ ap lead_at t.2)) ∙ t.3

pub returns-in_default-clause-rest : goal.returns-in_default-clause-rest
returns-in_default-clause-rest c = λ x r h k p.
    let t = operand_operator x _ r _ _ h k p c.imm-operand.ensures.imm c.imm-operand.ensures.rest (λ e. c.in_default.not-Semicolon (c.lead.ensures ∙ e)) (λ e. c.in_default.not-InstanceOf (c.lead.ensures ∙ e)) in
    c.imm.ensures.rest t.1 r (c.skip-in_default.ensures.rest _ _ t.2)
