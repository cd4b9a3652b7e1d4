-- The parts that the systems of a demand share.
use Rattle.std.specs.Prelude.{◌≡◌, ◌↔◌, ℕ, List, Some, length, slice_get}
use Rattle.auto_table.specs.declared.rule.Rule.{Rule}
use Rattle.auto_table.specs.declared.rule.Rule.TheVariants as rule
use Rattle.call_side.specs.Bases.{AreStrings, IsLast}
use Rattle.call_side.specs.Calls.{AreTheCalls}
use Rattle.demand_set.specs.Demands.{DemandParts}
use Rattle.lists.specs.Lists.{Has}
use Rattle.link_rules.specs.Linked.{LinkedProgram}
use Rattle.link_sites.specs.declared.place.Place.{Place}
use Rattle.link_sites.specs.declared.site.Site.{Site}
use Rattle.rule_cells.specs.CellRules.{HaveCells}
use Rattle.spds_rules.specs.declared.edge.EdgeKind.TheVariants as edge
use Rattle.spds_rules.specs.declared.node.Node.{Node}
use Rattle.spds_rules.specs.declared.store.StoreAt.{StoreAt}
use Rattle.spds_rules.specs.Demand.{Asked, EdgeIn, StartIn}
use Rattle.spds_rules.specs.Systems.{KeepsFields}
use Rattle.spds_tables.specs.declared.numbered.Jump.{Jump}
use Rattle.spds_tables.specs.declared.numbered.StartAt.{StartAt}
use Rattle.spds_tables.specs.declared.numbered.StoreNodes.{StoreNodes}
use Rattle.spds_tables.specs.declared.parts.Parts.{Parts}
use Rattle.spds_tables.specs.Names.{Names}
use Rattle.spds_tables.specs.Parts.{open_nodes, start_nodes, start_rows, starts_at, store_nodes_at}
use Rattle.spds_tables.specs.Systems.{IsCallRule, IsKept, IsLoaded}
use Rattle.weight_laws.specs.declared.reach.Reach.{Reach}
use Rattle.weight_laws.specs.Reach.{reach_domain}

-- a rule that an edge gives the field systems
abbrev pub IsEdgeRule : LinkedProgram → Asked → Names → Rule Reach → Type 0
IsEdgeRule p q names (rule.Flow from to weight) = (weight ≡ reach_domain.one) × IsKept p q names KeepsFields from to
IsEdgeRule p q names (rule.Push from to mark weight) = ⊥
IsEdgeRule p q names (rule.Pop from mark to weight) = (weight ≡ reach_domain.one) × IsLoaded p q names from mark to

-- the numbers of a start node and of its method
pub record StandsFor (nodes : List Node) (s : StartAt) (node : Node) : Type 0 where
  pub node_is : slice_get nodes s.node ≡ Some node
  pub method_is : s.method ≡ node.place.method

-- an edge through a static field
pub record IsJumpOf (p : LinkedProgram) (q : Asked) (names : Names) (j : Jump) : Type 0 where
  pub source : Node
  pub target : Node
  pub edge : EdgeIn p q source edge.Jump target
  pub from_is : slice_get names.nodes j.from ≡ Some source
  pub to_is : StandsFor names.nodes j.to target

-- a start node of the site
pub record IsStartOf (p : LinkedProgram) (q : Asked) (names : Names) (o : Site) (s : StartAt) : Type 0 where
  pub node : Node
  pub start : StartIn p q o node
  pub stands : StandsFor names.nodes s node

-- the numbers of the nodes of a store, and its field
pub record IsStoreOf (nodes : List Node) (s : StoreAt) (stored : StoreNodes) : Type 0 where
  pub base_is : slice_get nodes stored.base ≡ Some s.base
  pub arg_is : slice_get nodes stored.arg ≡ Some s.arg
  pub field_is : stored.field ≡ s.field

-- The parts are those of the edges, start nodes and stores that the query demands. What the systems of tables have in common are rules between cells: each
-- kind of system has its own. Nodes at which a system may come to start, and those that rules of its own may come to lead to, are kept.
pub record AreParts (p : LinkedProgram) (q : Asked) (names : Names) (parts : Parts) : Type 0 where
  pub field_nodes : List (Rule Reach)
  pub field_rules : (r : Rule Reach) → Has field_nodes r ↔ IsEdgeRule p q names r
  pub field_cells : HaveCells reach_domain field_nodes (start_nodes (start_rows parts)) parts.field_cells.items parts.fields.value.rules
  pub call_nodes : List (Rule Reach)
  pub call_rules : (r : Rule Reach) → Has call_nodes r ↔ IsCallRule p q names r
  pub call_cells : HaveCells reach_domain call_nodes (open_nodes (start_rows parts) parts.jumps.items) parts.call_cells.items parts.calls.value.rules
  pub jumps : (j : Jump) → Has parts.jumps.items j ↔ IsJumpOf p q names j
  pub starts : (site : ℕ) (o : Site) → slice_get names.sites site ≡ Some o → (s : StartAt) → Has (starts_at parts site) s ↔ IsStartOf p q names o s
  pub start_count : length parts.starts.items ≡ length names.sites
  pub stores : (store : ℕ) (s : StoreAt) → slice_get names.stores store ≡ Some s → IsStoreOf names.nodes s (store_nodes_at parts store)
  pub store_count : length parts.stores.items ≡ length names.stores
  pub strings : AreStrings p names.calls parts.bases.steps
  pub last : IsLast p parts.bases.last
  pub places : parts.places ≡ names.calls

-- the names of a demand
abbrev pub names_of : DemandParts → List Place → Names
names_of d calls = record { nodes = d.nodes; sites = d.sites; stores = d.stores; calls = calls }

-- the parts of a demand
pub record ArePartsOf (p : LinkedProgram) (q : Asked) (d : DemandParts) (parts : Parts) : Type 0 where
  pub calls : List Place
  pub are_calls : AreTheCalls p calls
  pub are_parts : AreParts p q (names_of d calls) parts
