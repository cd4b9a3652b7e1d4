use Rattle.std.proofs.Common.{◌≡◌, map, take}
use Rattle.site_events.proofs.site.methods_of.Given as goal

abbrev pub invariant-loop-statement : goal.invariant-loop-statement
invariant-loop-statement l = l.methods.items ≡ map (λ s. s.method) (take l.statement-index l.statements)
