use Rattle.std.proofs.Common.{sym, ap, ◌∙◌}
use Rattle.jim_text.specs.Ends.{is_in}
use Rattle.jim_text.proofs.ByteLemmas.{continue_table}
use Rattle.jim_text.proofs.chars.Class.contains_byte.Goals as goal

pub returns-in-Continue : goal.returns-in-Continue
returns-in-Continue c = continue_table c.args.b c.requires ∙ ap (λ class. is_in class c.args.b) (sym c.in-Continue.is)
