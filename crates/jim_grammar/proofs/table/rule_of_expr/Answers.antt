use Rattle.std.proofs.Common.{refl, ap}
use Rattle.jim_grammar.specs.Items.{re_expr}
use Rattle.jim_grammar.specs.Forms.{Exprs}
use Rattle.jim_grammar.specs.Grammar.{by_expr}
use Rattle.jim_grammar.proofs.table.rule_of_expr.Goals as goal

pub returns-in-Expr : goal.returns-in-Expr
returns-in-Expr c = (Exprs, by_expr, ap re_expr c.in-Expr.is, refl)
