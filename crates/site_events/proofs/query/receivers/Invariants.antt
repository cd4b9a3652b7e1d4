use Rattle.std.proofs.Common.{◌≡◌, map, take}
use Rattle.site_events.specs.EventStatements.{receiver_node}
use Rattle.site_events.proofs.query.receivers.Given as goal

abbrev pub invariant-loop-statement : goal.invariant-loop-statement
invariant-loop-statement l = l.nodes.items ≡ map receiver_node (take l.statement-index l.statements)
