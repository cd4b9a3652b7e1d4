use Rattle.std.proofs.Common.{refl, ap}
use Rattle.jim_grammar.specs.Items.{re_class}
use Rattle.jim_grammar.specs.Forms.{Members}
use Rattle.jim_grammar.specs.Grammar.{by_member}
use Rattle.jim_grammar.proofs.table.rule_of_class.Goals as goal

pub returns-in-Member : goal.returns-in-Member
returns-in-Member c = (Members, by_member, ap re_class c.in-Member.is, refl)
