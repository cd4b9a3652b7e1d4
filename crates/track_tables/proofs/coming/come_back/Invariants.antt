use Rattle.std.proofs.Common.{◌-◌, ◌^◌}
use Rattle.link_sites.specs.declared.site.Site.{Site}
use Rattle.site_events.specs.Sites.{AreEventsOf}
use Rattle.spds_rules.specs.Demand.{Asked}
use Rattle.track_rules.specs.Protocols.{ProtocolParts}
use Rattle.track_tables.specs.Making.{AreOf, IsBackAmong, IsGrown}
use Rattle.track_tables.proofs.Going.{IsCome}
use Rattle.track_tables.proofs.coming.come_back.Given as goal

abbrev pub invariant-loop-mark : goal.invariant-loop-mark
invariant-loop-mark l =
    let p = l.given.linked.now in
    let nodes = l.given.demand.now.nodes in
    let parts = l.given.parts.now in
    record {
      grown : IsGrown l.initial.growth l.growth;
      each : (k : ProtocolParts) (q : Asked) (a : Site) → AreEventsOf p k q a l.events
          → AreOf p k q a nodes parts.calls (IsBackAmong parts.returns) l.initial.growth.work.rules l.growth.work.rules;
      come : (k : ProtocolParts) (q : Asked) (a : Site) → AreEventsOf p k q a l.events → IsCome p k q a nodes parts l.initial.growth l.growth l.at l.seen l.number;
    }

abbrev pub decreases-loop-mark : goal.decreases-loop-mark
decreases-loop-mark l = 2 ^ 63 - l.number
