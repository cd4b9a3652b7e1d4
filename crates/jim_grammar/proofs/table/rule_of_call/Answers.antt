use Rattle.std.proofs.Common.{refl, ap}
use Rattle.jim_grammar.specs.Items.{re_call}
use Rattle.jim_grammar.specs.Forms.{Invokes}
use Rattle.jim_grammar.specs.Grammar.{by_invoke}
use Rattle.jim_grammar.proofs.table.rule_of_call.Goals as goal

pub returns-in-Invoke : goal.returns-in-Invoke
returns-in-Invoke c = (Invokes, by_invoke, ap re_call c.in-Invoke.is, refl)
