use Rattle.std.proofs.Common.{refl, ap}
use Rattle.jim_grammar.specs.Items.{re_imm}
use Rattle.jim_grammar.specs.Forms.{Imms}
use Rattle.jim_grammar.specs.Grammar.{by_imm}
use Rattle.jim_grammar.proofs.table.rule_of_imm.Goals as goal

pub returns-in-Imm : goal.returns-in-Imm
returns-in-Imm c = (Imms, by_imm, ap re_imm c.in-Imm.is, refl)
