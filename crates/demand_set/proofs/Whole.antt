-- A demand that was found whole.
use Rattle.std.proofs.Common.{◌≡◌, ◌⊎◌, ◌↔◌, List, inl, inr}
use Rattle.lists.specs.Lists.{Adds, Has, AreAll}
use Rattle.lists.proofs.Places.{Has-adds_itself, slice_get-adds, slice_get-added}
use Rattle.link_rules.specs.Linked.{LinkedProgram}
use Rattle.link_sites.specs.declared.site.Site.{Site}
use Rattle.spds_rules.specs.declared.node.Node.{Node}
use Rattle.spds_rules.specs.Answers.{AreSites}
use Rattle.spds_rules.specs.Demand.{Asked, Demand, SiteIn}
use Rattle.spds_rules.specs.Edges.{IsEdge}
use Rattle.spds_rules.specs.Nodes.{IsNode}
use Rattle.spds_rules.specs.Stores.{IsStore}
use Rattle.demand_set.specs.declared.demanded.Walk.{Walk}
use Rattle.demand_set.specs.Walks.{IsWalk}
use Rattle.demand_set.specs.Demands.{DemandParts, IsDemandOf}
use Rattle.demand_set.specs.Starts.{HasStart}

-- the sites of the demanded nodes are those of the demand
pub AreSites-demanded : (p : LinkedProgram) (q : Asked) (nodes : List Node) (sites : List Site) → AreAll (Demand p q) nodes → ((n : Node) → Demand p q n → IsNode p n)
    → AreSites p (HasStart nodes) sites → AreSites p (SiteIn p q) sites
AreSites-demanded p q nodes sites are stand s = record {
  each = λ o. (
    λ h. let f = (s.each o).0 h in let d = are.each f.0 f.1 in (f.0, ((stand f.0 d, f.2), d)),
    λ h. (s.each o).1 (h.0, are.all h.0 h.1.1, h.1.0.1),
  );
  ordered = s.ordered;
}

-- the demand of the parts that a walk found, with their sites
pub IsDemandOf-walked : (p : LinkedProgram) (q : Asked) (w : Walk) (d : DemandParts) → ((n : Node) → Demand p q n → IsNode p n)
    → IsWalk (IsEdge p q.reach) (IsStore p) q.targets w → d.nodes ≡ w.nodes → d.edges ≡ w.edges → d.fields ≡ w.fields → d.stores ≡ w.stores
    → AreSites p (HasStart w.nodes) d.sites → IsDemandOf p q d
IsDemandOf-walked p q w d stand walked nodes edges fields stores sites = record {
  nodes = rw nodes walked.nodes;
  edges = rw edges walked.edges;
  fields = rw fields walked.fields;
  stores = rw stores walked.stores;
  sites = AreSites-demanded p q w.nodes d.sites walked.nodes stand sites;
}
