use Rattle.std.proofs.Common.{take}
use Rattle.site_events.proofs.Closing.{IsEventBy}
use Rattle.site_events.proofs.star.event_relation.Given as goal

abbrev pub invariant-loop-row : goal.invariant-loop-row
invariant-loop-row l = IsEventBy l.event (take l.row-index l.row-items) l.relation
