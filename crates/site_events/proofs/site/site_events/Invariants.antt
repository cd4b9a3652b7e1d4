use Rattle.std.proofs.Common.{List}
use Rattle.link_rules.specs.Linked.{LinkedProgram}
use Rattle.link_sites.specs.declared.site.Site.{Site}
use Rattle.spds_rules.specs.Demand.{Asked}
use Rattle.site_events.specs.declared.event_statement.EventStatement.{EventStatement}
use Rattle.track_rules.specs.Protocols.{ProtocolParts}
use Rattle.site_events.specs.Events.{AreEventsIn, AreHeldAmong}
use Rattle.site_events.proofs.Built.{IsBuilt}
use Rattle.site_events.proofs.site.site_events.Given as goal

abbrev pub invariant-loop-event : goal.invariant-loop-event
invariant-loop-event l = (p : LinkedProgram) (k : ProtocolParts) (q : Asked) (a : Site) (statements : List EventStatement) → AreEventsIn p k statements l.events
    → AreHeldAmong p q a statements l.places → IsBuilt p k q a l.event l.found
