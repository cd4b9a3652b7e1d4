use Rattle.std.proofs.Common.{◌∙◌, sym, ap, arith}
use Rattle.jim_stmts.specs.Leads.{third_at}
use Rattle.jim_stmts.proofs.Drops.{third_some, third_none}
use Rattle.jim_stmts.proofs.reader.Reader.third.Goals as goal

pub returns-then-self : goal.returns-then-self
returns-then-self c = sym (ap third_at (sym c.self.view_is) ∙ third_some c.self.inside.signs.now c.self.inside.at _ (omega arith))

pub returns : goal.returns
returns c = sym (ap third_at (sym c.self.view_is) ∙ third_none c.self.inside.signs.now c.self.inside.at (omega arith))
