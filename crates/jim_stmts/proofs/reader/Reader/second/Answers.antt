use Rattle.std.proofs.Common.{◌∙◌, sym, ap, arith}
use Rattle.jim_stmts.specs.Leads.{second_at}
use Rattle.jim_stmts.proofs.Drops.{second_some, second_none}
use Rattle.jim_stmts.proofs.reader.Reader.second.Goals as goal

pub returns-then-self : goal.returns-then-self
returns-then-self c = sym (ap second_at (sym c.self.view_is) ∙ second_some c.self.inside.signs.now c.self.inside.at _ (omega arith))

pub returns : goal.returns
returns c = sym (ap second_at (sym c.self.view_is) ∙ second_none c.self.inside.signs.now c.self.inside.at (omega arith))
