use Rattle.std.proofs.Common.{◌-◌, ◌^◌}
use Rattle.link_sites.specs.declared.site.Site.{Site}
use Rattle.site_events.specs.Sites.{AreEventsOf}
use Rattle.spds_rules.specs.Demand.{Asked}
use Rattle.track_rules.specs.Protocols.{ProtocolParts}
use Rattle.track_tables.specs.Making.{AreOf, IsBackAmong, IsGrown}
use Rattle.track_tables.proofs.Going.{IsCrossed}
use Rattle.track_tables.proofs.coming.add_by_mark.Given as goal

abbrev pub invariant-loop-mark : goal.invariant-loop-mark
invariant-loop-mark l =
    let p = l.given.linked.now in
    let nodes = l.given.demand.now.nodes in
    let parts = l.given.parts.now in
    record {
      grown : IsGrown l.initial.growth l.growth;
      each : (k : ProtocolParts) (q : Asked) (a : Site) → AreEventsOf p k q a l.events
          → AreOf p k q a nodes parts.calls (IsBackAmong parts.returns) l.initial.growth.work.rules l.growth.work.rules;
      crossed : (k : ProtocolParts) (q : Asked) (a : Site) → AreEventsOf p k q a l.events → IsCrossed p k q a nodes parts l.growth l.node l.at;
    }

abbrev pub decreases-loop-mark : goal.decreases-loop-mark
decreases-loop-mark l = 2 ^ 63 - l.at
