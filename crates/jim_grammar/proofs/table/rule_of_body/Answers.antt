use Rattle.std.proofs.Common.{refl, ap}
use Rattle.jim_grammar.specs.Items.{re_body}
use Rattle.jim_grammar.specs.Forms.{Decls, Ends}
use Rattle.jim_grammar.specs.Grammar.{by_decl, by_end}
use Rattle.jim_grammar.proofs.table.rule_of_body.Goals as goal

pub returns-in-Decl : goal.returns-in-Decl
returns-in-Decl c = (Decls, by_decl, ap re_body c.in-Decl.is, refl)

pub returns-in-Ending : goal.returns-in-Ending
returns-in-Ending c = (Ends, by_end, ap re_body c.in-Ending.is, refl)
