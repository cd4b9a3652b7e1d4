-- Where loads lie ahead, as it is searched over the lists of a demand.
use Rattle.std.specs.Prelude.{◌≡◌, ℕ, List, eqb}
use Rattle.lists.specs.Groups.{Grouped, found_at}
use Rattle.lists.specs.Lists.{Has}
use Rattle.spds_rules.specs.contracts.node.NodePartialEq.TheImpl as node
use Rattle.spds_rules.specs.declared.edge.Edge.{Edge}
use Rattle.spds_rules.specs.declared.edge.EdgeKind.TheVariants.{Load}
use Rattle.spds_rules.specs.declared.node.Node.{Node}
use Rattle.spds_rules.specs.declared.store.StoreAt.{StoreAt}
use Rattle.spds_rules.specs.Systems.{KeepsFields}
use Rattle.demand_set.specs.Demands.{DemandParts}
use Rattle.cert_lines.specs.declared.keys.FieldAt.{FieldAt}
use Rattle.cert_work.specs.declared.wants.Ahead.{Ahead}
use Rattle.cert_work.specs.Wants.{IsAhead}

-- the node was found to lie before loads of the field
abbrev pub IsFound : List FieldAt → ℕ → Node → Type 0
IsFound found f n = Has found (record { field = f; node = n })

-- what the store takes is kept under its field
abbrev pub IsArgFiled : Grouped ℕ Node → StoreAt → Type 0
IsArgFiled args s = Has (found_at eqb args s.field) s.arg

-- What the edge leads to lies before loads of the field, and so does where it comes from, if it keeps the fields, and what is stored into the field that it loads.
pub record IsBefore (found : List FieldAt) (args : Grouped ℕ Node) (f : ℕ) (e : Edge) : Type 0 where
  pub kept : KeepsFields e.kind → IsFound found f e.from
  pub stored : (g : ℕ) (n : Node) → e.kind ≡ Load g → Has (found_at eqb args g) n → IsFound found f n

-- of all edges that lead to the node
abbrev pub IsSearched : List FieldAt → Grouped Node Edge → Grouped ℕ Node → FieldAt → Type 0
IsSearched found back args at = (e : Edge) → Has (found_at node.eq-value.it back at.node) e → IsBefore found args at.field e

-- where loads lie ahead, by the edges and the stores of a demand
pub record IsAheadIn (d : DemandParts) (a : Ahead) : Type 0 where
  pub loaded : (f : ℕ) (e : Edge) → Has d.edges e → e.kind ≡ Load f → IsAhead a f e.from
  pub kept : (f : ℕ) (e : Edge) → Has d.edges e → KeepsFields e.kind → IsAhead a f e.to → IsAhead a f e.from
  pub stored : (f : ℕ) (e : Edge) (s : StoreAt) → Has d.edges e → Has d.stores s → e.kind ≡ Load s.field → IsAhead a f e.to → IsAhead a f s.arg
