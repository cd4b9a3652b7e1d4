use Rattle.std.proofs.Common.{◌∙◌}
use Rattle.jim_stmts.proofs.Drops.{drop_tail}
use Rattle.jim_stmts.proofs.reader.Reader.skip.Goals as goal

pub returns-then-self-clause-rest : goal.returns-then-self-clause-rest
returns-then-self-clause-rest c = λ s r h. drop_tail c.self.inside.signs.now c.self.inside.at s r (c.self.view_is ∙ h)
