use Rattle.std.proofs.Common.{◌⊎◌, take}
use Rattle.auto_table.specs.declared.rule.Rule.{Rule}
use Rattle.demand_set.specs.declared.numbered.EdgeAt.{EdgeAt}
use Rattle.lists.specs.Lists.{Has}
use Rattle.link_sites.specs.declared.site.Site.{Site}
use Rattle.site_events.specs.Sites.{AreEventsOf}
use Rattle.spds_rules.specs.Demand.{Asked}
use Rattle.track_rules.specs.Protocols.{ProtocolParts}
use Rattle.track_tables.specs.Making.{IsGrown, IsRuleOf, IsTaken}
use Rattle.weight_laws.specs.declared.rel.Rel.{Rel}
use Rattle.track_tables.proofs.rules.add_edges.Given as goal

abbrev pub invariant-loop-edge : goal.invariant-loop-edge
invariant-loop-edge l =
    let p = l.given.linked.now in
    let nodes = l.given.demand.now.nodes in
    let calls = l.given.parts.now.calls in
    record {
      grown : IsGrown l.initial.growth l.growth;
      each : (k : ProtocolParts) (q : Asked) (a : Site) → AreEventsOf p k q a l.events → (r : Rule Rel) → Has l.growth.work.rules r
          → Has l.initial.growth.work.rules r ⊎ ((e : EdgeAt) × Has (take l.edge-index l.edges) e × IsRuleOf p k q a nodes calls e r);
      taken : (k : ProtocolParts) (q : Asked) (a : Site) → AreEventsOf p k q a l.events → (e : EdgeAt) → Has (take l.edge-index l.edges) e
          → IsTaken p k q a nodes calls e l.growth.work.rules;
    }
