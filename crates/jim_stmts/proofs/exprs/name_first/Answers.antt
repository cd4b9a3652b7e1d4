use Rattle.std.proofs.Common.{◌∙◌, sym}
use Rattle.jim_grammar.specs.Forms.{Exprs, FieldExpr, CellExpr}
use Rattle.jim_grammar.specs.Grammar.{by_expr}
use Rattle.jim_stmts.specs.Meanings.{expr_of}
use Rattle.jim_stmts.proofs.Choices.{of_form}
use Rattle.jim_stmts.proofs.ExprChoices.{name_first, name_dot, name_bracket}
use Rattle.jim_stmts.proofs.exprs.name_first.Goals as goal

pub returns-in-Dot-clause-expr : goal.returns-in-Dot-clause-expr
returns-in-Dot-clause-expr c = λ x r h l p.
    let y = of_form Exprs by_expr expr_of FieldExpr x _ r h (name_dot _ _ (name_first x _ r h p l) (sym c.second.ensures ∙ c.in-Dot.is)) in
    c.field.ensures.expr y.0 r y.1 ∙ y.2

pub returns-in-OpenBracket-clause-expr : goal.returns-in-OpenBracket-clause-expr
returns-in-OpenBracket-clause-expr c = λ x r h l p.
    let y = of_form Exprs by_expr expr_of CellExpr x _ r h (name_bracket _ _ (name_first x _ r h p l) (sym c.second.ensures ∙ c.in-OpenBracket.is)) in
    c.cell.ensures.expr y.0 r y.1 ∙ y.2
