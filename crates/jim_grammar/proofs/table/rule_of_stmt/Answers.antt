use Rattle.std.proofs.Common.{refl, ap}
use Rattle.jim_grammar.specs.Items.{re_stmt}
use Rattle.jim_grammar.specs.Forms.{Stmts, Lines}
use Rattle.jim_grammar.specs.Grammar.{by_stmt, by_line}
use Rattle.jim_grammar.proofs.table.rule_of_stmt.Goals as goal

pub returns-in-Stmt : goal.returns-in-Stmt
returns-in-Stmt c = (Stmts, by_stmt, ap re_stmt c.in-Stmt.is, refl)

pub returns-in-Line : goal.returns-in-Line
returns-in-Line c = (Lines, by_line, ap re_stmt c.in-Line.is, refl)
