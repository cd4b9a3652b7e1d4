use Rattle.std.proofs.Common.{take}
use Rattle.lists.specs.Lists.{Has}
use Rattle.site_events.specs.Tables.{AreRaised}
use Rattle.site_events.proofs.relations.Relations.raise_all.Given as goal

abbrev pub invariant-loop-statement : goal.invariant-loop-statement
invariant-loop-statement l = AreRaised l.fn.self (λ s. Has (take l.statement-index l.statements) s) l.relation l.self
