use Rattle.std.proofs.Common.{◌∙◌, sym, ap}
use Rattle.jim_text.specs.declared.lead.Lead.TheVariants as lead
use Rattle.jim_grammar.specs.Forms.{Exprs, InvokeExpr}
use Rattle.jim_grammar.specs.Grammar.{by_expr}
use Rattle.jim_stmts.specs.Leads.{lead_at}
use Rattle.jim_stmts.specs.Meanings.{expr_of}
use Rattle.jim_stmts.proofs.Choices.{of_form, ok_same}
use Rattle.jim_stmts.proofs.ExprChoices.{expr_at, expr_form, expr_form-spell, expr_form-other, begun_is}
use Rattle.jim_stmts.proofs.exprs.expr.Goals as goal

pub returns-in-New-clause-expr : goal.returns-in-New-clause-expr
returns-in-New-clause-expr c = λ x r h p. let y = expr_at lead.New x _ r h (sym c.lead.ensures ∙ c.in-New.is) (λ e. cc) in c.new_object.ensures.expr y.0 r y.1 ∙ y.2

pub returns-in-NewArray-clause-expr : goal.returns-in-NewArray-clause-expr
returns-in-NewArray-clause-expr c = λ x r h p. let y = expr_at lead.NewArray x _ r h (sym c.lead.ensures ∙ c.in-NewArray.is) (λ e. cc) in c.new_array.ensures.expr y.0 r y.1 ∙ y.2

pub returns-in-NewMultiArray-clause-expr : goal.returns-in-NewMultiArray-clause-expr
returns-in-NewMultiArray-clause-expr c = λ x r h p. let y = expr_at lead.NewMultiArray x _ r h (sym c.lead.ensures ∙ c.in-NewMultiArray.is) (λ e. cc) in c.new_multi.ensures.expr y.0 r y.1 (λ e. cc) ∙ y.2

pub returns-in-OpenParen-clause-expr : goal.returns-in-OpenParen-clause-expr
returns-in-OpenParen-clause-expr c = λ x r h p. let y = expr_at lead.OpenParen x _ r h (sym c.lead.ensures ∙ c.in-OpenParen.is) (λ e. cc) in c.cast.ensures.expr y.0 r y.1 ∙ y.2

pub returns-in-LengthOf-clause-expr : goal.returns-in-LengthOf-clause-expr
returns-in-LengthOf-clause-expr c = λ x r h p. let y = expr_at lead.LengthOf x _ r h (sym c.lead.ensures ∙ c.in-LengthOf.is) (λ e. cc) in c.array_length.ensures.expr y.0 r y.1 ∙ y.2

pub returns-in-Less-clause-expr : goal.returns-in-Less-clause-expr
returns-in-Less-clause-expr c = λ x r h p. let y = expr_at lead.Less x _ r h (sym c.lead.ensures ∙ c.in-Less.is) (λ e. cc) in c.static_field.ensures.expr y.0 r y.1 ∙ y.2

pub returns-in_default-clause-expr : goal.returns-in_default-clause-expr
returns-in_default-clause-expr c = λ x r h p.
    let other = expr_form-other _ c.in_default.not-New c.in_default.not-NewArray c.in_default.not-NewMultiArray c.in_default.not-OpenParen c.in_default.not-LengthOf c.in_default.not-Neg c.in_default.not-Less c.in_default.not-Name c.in_default.not-Number c.in_default.not-Minus c.in_default.not-Text c.in_default.not-Class c.in_default.not-Null in
    let same = sym other ∙ (ap expr_form c.lead.ensures ∙ (ap (λ v. expr_form (lead_at v)) h ∙ expr_form-spell x r)) in
    let y = of_form Exprs by_expr expr_of InvokeExpr x _ r h (begun_is x.0 InvokeExpr same (λ e. cc)) in
    ok_same c.call_result.result y.2 (c.call_result.ensures.expr y.0 r y.1 p)

pub returns-in_default-clause-rest : goal.returns-in_default-clause-rest
returns-in_default-clause-rest c = λ x r h p.
    let other = expr_form-other _ c.in_default.not-New c.in_default.not-NewArray c.in_default.not-NewMultiArray c.in_default.not-OpenParen c.in_default.not-LengthOf c.in_default.not-Neg c.in_default.not-Less c.in_default.not-Name c.in_default.not-Number c.in_default.not-Minus c.in_default.not-Text c.in_default.not-Class c.in_default.not-Null in
    let same = sym other ∙ (ap expr_form c.lead.ensures ∙ (ap (λ v. expr_form (lead_at v)) h ∙ expr_form-spell x r)) in
    let y = of_form Exprs by_expr expr_of InvokeExpr x _ r h (begun_is x.0 InvokeExpr same (λ e. cc)) in
    c.call_result.ensures.rest y.0 r y.1 p
