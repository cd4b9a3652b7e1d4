use Rattle.std.proofs.Common.{◌-◌, ◌^◌, ℕ}
use Rattle.demand_set.specs.declared.numbered.EdgeAt.{EdgeAt}
use Rattle.lists.specs.Lists.{Has}
use Rattle.link_sites.specs.declared.site.Site.{Site}
use Rattle.post_star.specs.declared.key.Key.TheVariants as key
use Rattle.post_star.specs.Groups.{found_at}
use Rattle.site_events.specs.Sites.{AreEventsOf}
use Rattle.spds_rules.specs.Demand.{Asked}
use Rattle.track_rules.specs.Protocols.{ProtocolParts}
use Rattle.track_tables.specs.declared.returns.Return.{Return}
use Rattle.track_tables.specs.Making.{AreOf, IsEdgeOf, IsGrown, IsPast, IsTaken}
use Rattle.track_tables.proofs.rules.spread.Given as goal

abbrev pub invariant-loop-node : goal.invariant-loop-node
invariant-loop-node l =
    let p = l.given.linked.now in
    let nodes = l.given.demand.now.nodes in
    let parts = l.given.parts.now in
    record {
      grown : IsGrown l.initial.growth l.growth;
      each : (k : ProtocolParts) (q : Asked) (a : Site) → AreEventsOf p k q a l.events
          → AreOf p k q a nodes parts.calls (IsEdgeOf parts) l.initial.growth.work.rules l.growth.work.rules;
      onward : (k : ProtocolParts) (q : Asked) (a : Site) → AreEventsOf p k q a l.events → (number : ℕ) (e : EdgeAt) → IsPast l.growth.reached.keys l.at number
          → Has (found_at parts.onward (key.Node number)) e → IsTaken p k q a nodes parts.calls e l.growth.work.rules;
      back : (k : ProtocolParts) (q : Asked) (a : Site) → AreEventsOf p k q a l.events → (r : Return) → Has parts.returns r
          → IsPast l.growth.reached.keys l.at r.edge.from → Has l.growth.marks.keys r.mark → IsTaken p k q a nodes parts.calls r.edge l.growth.work.rules;
    }

abbrev pub decreases-loop-node : goal.decreases-loop-node
decreases-loop-node l = 2 ^ 63 - l.at
