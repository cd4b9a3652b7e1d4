use Rattle.std.proofs.Common.{take}
use Rattle.lists.specs.Lists.{Has}
use Rattle.link_sites.specs.declared.site.Site.{Site}
use Rattle.site_events.specs.Sites.{AreEventsOf}
use Rattle.spds_rules.specs.Demand.{Asked}
use Rattle.track_rules.specs.Protocols.{ProtocolParts}
use Rattle.track_tables.specs.declared.returns.Return.{Return}
use Rattle.track_tables.specs.Making.{AreOf, IsBackAmong, IsDue, IsGrown, IsTaken}
use Rattle.track_tables.proofs.coming.add_back.Given as goal

abbrev pub invariant-loop-back : goal.invariant-loop-back
invariant-loop-back l =
    let p = l.given.linked.now in
    let nodes = l.given.demand.now.nodes in
    let calls = l.given.parts.now.calls in
    record {
      grown : IsGrown l.initial.growth l.growth;
      each : (k : ProtocolParts) (q : Asked) (a : Site) → AreEventsOf p k q a l.events
          → AreOf p k q a nodes calls (IsBackAmong l.returns) l.initial.growth.work.rules l.growth.work.rules;
      taken : (k : ProtocolParts) (q : Asked) (a : Site) → AreEventsOf p k q a l.events → (r : Return) → Has (take l.back-index l.returns) r
          → IsDue l.initial.growth l.due r → IsTaken p k q a nodes calls r.edge l.growth.work.rules;
    }
