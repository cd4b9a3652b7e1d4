-- What a query needs to look at, found backwards from what it asks for (Späth, Ali and Bodden 2019).
use Rattle.std.specs.Prelude.{◌≡◌, ℕ, List, [], ◌∷◌}
use Rattle.lists.specs.Lists.{Has}
use Rattle.link_rules.specs.Linked.{LinkedProgram}
use Rattle.link_sites.specs.declared.site.Site.{Site}
use Rattle.spds_rules.specs.declared.edge.EdgeKind.{EdgeKind}
use Rattle.spds_rules.specs.declared.edge.EdgeKind.TheVariants.{Load}
use Rattle.spds_rules.specs.declared.node.Node.{Node}
use Rattle.spds_rules.specs.declared.reach.Reach.{Reach}
use Rattle.spds_rules.specs.declared.reach.Reach.TheVariants.{Plain}
use Rattle.spds_rules.specs.declared.store.StoreAt.{StoreAt}
use Rattle.spds_rules.specs.Edges.{IsEdge}
use Rattle.spds_rules.specs.Nodes.{IsStart}
use Rattle.spds_rules.specs.Stores.{IsStore}

-- over any graph of edges and stores: the least set that holds the targets and the source of each edge into it, and for each edge into it that loads a
-- field the two nodes of every store of that field
pub data Demanded (Edges : Node → EdgeKind → Node → Type 0) (Stores : StoreAt → Type 0) (targets : List Node) : Node → Type 0 where
  target : {n : Node} → Has targets n → Demanded Edges Stores targets n
  source : {a b : Node} {kind : EdgeKind} → Edges a kind b → Demanded Edges Stores targets b → Demanded Edges Stores targets a
  base : {a b : Node} {field : ℕ} {s : StoreAt} → Edges a (Load field) b → Demanded Edges Stores targets b → Stores s → s.field ≡ field
      → Demanded Edges Stores targets s.base
  arg : {a b : Node} {field : ℕ} {s : StoreAt} → Edges a (Load field) b → Demanded Edges Stores targets b → Stores s → s.field ≡ field
      → Demanded Edges Stores targets s.arg

-- the field is loaded along an edge into the set
pub record IsFieldDemanded (Edges : Node → EdgeKind → Node → Type 0) (Stores : StoreAt → Type 0) (targets : List Node) (field : ℕ) : Type 0 where
  pub from : Node
  pub to : Node
  pub edge : Edges from (Load field) to
  pub demanded : Demanded Edges Stores targets to

-- what a query asks for, and over which edges
pub record Asked : Type 0 where
  pub targets : List Node
  pub reach : Reach

-- a query of these nodes. It needs no back edges
abbrev pub asked : List Node → Asked
asked nodes = record { targets = nodes; reach = Plain }

-- of one node
abbrev pub about : Node → Asked
about n = asked (n ∷ [])

-- the nodes that the query demands
abbrev pub Demand : LinkedProgram → Asked → Node → Type 0
Demand p q = Demanded (IsEdge p q.reach) (IsStore p) q.targets

-- an edge into a demanded node
abbrev pub EdgeIn : LinkedProgram → Asked → Node → EdgeKind → Node → Type 0
EdgeIn p q a kind b = IsEdge p q.reach a kind b × Demand p q b

-- a field that is loaded along such an edge
abbrev pub FieldIn : LinkedProgram → Asked → ℕ → Type 0
FieldIn p q field = IsFieldDemanded (IsEdge p q.reach) (IsStore p) q.targets field

-- a store of such a field
abbrev pub StoreIn : LinkedProgram → Asked → StoreAt → Type 0
StoreIn p q s = IsStore p s × FieldIn p q s.field

-- a demanded start node of the site
abbrev pub StartIn : LinkedProgram → Asked → Site → Node → Type 0
StartIn p q o n = IsStart p o n × Demand p q n

-- a site with a start node that is demanded
abbrev pub SiteIn : LinkedProgram → Asked → Site → Type 0
SiteIn p q o = (n : Node) × StartIn p q o n
