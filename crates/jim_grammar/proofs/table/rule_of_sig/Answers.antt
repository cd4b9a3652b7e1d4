use Rattle.std.proofs.Common.{refl, ap}
use Rattle.jim_grammar.specs.Items.{re_sig}
use Rattle.jim_grammar.specs.Forms.{Results}
use Rattle.jim_grammar.specs.Grammar.{by_result}
use Rattle.jim_grammar.proofs.table.rule_of_sig.Goals as goal

pub returns-in-Outcome : goal.returns-in-Outcome
returns-in-Outcome c = (Results, by_result, ap re_sig c.in-Outcome.is, refl)
