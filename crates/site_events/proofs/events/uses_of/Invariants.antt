use Rattle.std.proofs.Common.{◌≡◌, map, take}
use Rattle.site_events.specs.Events.{use_of}
use Rattle.site_events.proofs.events.uses_of.Given as goal

abbrev pub invariant-loop-statement : goal.invariant-loop-statement
invariant-loop-statement l = l.uses.items ≡ map use_of (take l.statement-index l.statements)
