-- A demand of a program, as its parts.
use Rattle.std.specs.Prelude.{◌≡◌, ℕ, List, Some, slice_get}
use Rattle.link_rules.specs.Linked.{LinkedProgram}
use Rattle.link_sites.specs.declared.site.Site.{Site}
use Rattle.spds_rules.specs.declared.edge.Edge.{Edge}
use Rattle.spds_rules.specs.declared.node.Node.{Node}
use Rattle.spds_rules.specs.declared.store.StoreAt.{StoreAt}
use Rattle.spds_rules.specs.Answers.{AreSites}
use Rattle.spds_rules.specs.Demand.{Asked, Demand, EdgeIn, FieldIn, SiteIn, StoreIn}
use Rattle.lists.specs.Lists.{AreAll}
use Rattle.spds_rules.specs.Nodes.{site_of}

-- nodes, the edges into them, the fields that these load, the stores of these fields, and the sites of which start nodes are among the nodes
pub record DemandParts : Type 0 where
  pub nodes : List Node
  pub edges : List Edge
  pub fields : List ℕ
  pub stores : List StoreAt
  pub sites : List Site

-- they are what is asked for demands of the program, each once, and the sites in the order in which they are printed
pub record IsDemandOf (p : LinkedProgram) (q : Asked) (d : DemandParts) : Type 0 where
  pub nodes : AreAll (Demand p q) d.nodes
  pub edges : AreAll (λ e. EdgeIn p q e.from e.kind e.to) d.edges
  pub fields : AreAll (FieldIn p q) d.fields
  pub stores : AreAll (StoreIn p q) d.stores
  pub sites : AreSites p (SiteIn p q) d.sites

-- the node with the number is a start node of the site
abbrev pub StartsAt : List Node → Site → ℕ → Type 0
StartsAt nodes site number = (node : Node) × (slice_get nodes number ≡ Some node) × (site_of node ≡ Some site)
