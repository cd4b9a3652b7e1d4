-- The edges and the start nodes of a demand by look-ups.
use Rattle.std.specs.Prelude.{◌≡◌, ◌↔◌, ◌⊎◌, ◌<◌, ℕ, List, Some, length, slice_get}
use Rattle.link_rules.specs.Linked.{LinkedProgram}
use Rattle.link_sites.specs.declared.site.Site.{Site}
use Rattle.lists.specs.declared.filing.Pair.{Pair}
use Rattle.lists.specs.Filings.{AreBelow, items_under, row}
use Rattle.lists.specs.Groups.{found_at}
use Rattle.lists.specs.Lists.{Has}
use Rattle.spds_rules.specs.declared.edge.Edge.{Edge}
use Rattle.spds_rules.specs.declared.node.Node.{Node}
use Rattle.spds_rules.specs.declared.store.StoreAt.{StoreAt}
use Rattle.spds_rules.specs.Demand.{EdgeIn, StartIn, StoreIn, about}
use Rattle.cert_rules.specs.declared.fact.Fact.{Fact}
use Rattle.cert_rules.specs.declared.line.Line.{Line}
use Rattle.cert_rules.specs.Given.{Gives}
use Rattle.cert_lines.specs.contracts.keys.OriginPartialEq.TheImpl as origin
use Rattle.cert_work.specs.declared.roads.Roads.{Roads}
use Rattle.cert_work.specs.declared.roads.View.{View}
use Rattle.cert_work.specs.Added.{AreAdded}
use Rattle.cert_lines.specs.Noted.{Noted}

-- where the store takes an object from, or the object is into which it puts it
abbrev pub IsEndOf : StoreAt → Node → Type 0
IsEndOf s n = (n ≡ s.arg) ⊎ (n ≡ s.base)

-- the target, or such a node of a demanded store: where it is asked which objects are there
abbrev pub IsEnd : LinkedProgram → Node → Node → Type 0
IsEnd p t n = (n ≡ t) ⊎ ((s : StoreAt) × StoreIn p (about t) s × IsEndOf s n)

-- the edges stand under the numbers of their sources, each of which has one
pub record AreUnder (keys : List Node) (edges : List Edge) (pairs : List (Pair Edge)) : Type 0 where
  pub below : AreBelow (length keys) pairs
  pub numbered : (e : Edge) → Has edges e → Has keys e.from
  pub each : (i : ℕ) (e : Edge) → Has (items_under pairs i) e ↔ ((slice_get keys i ≡ Some e.from) × Has edges e)

-- the node has a number below this one
abbrev pub IsAmongFirst : List Node → ℕ → Node → Type 0
IsAmongFirst keys bound n = (i : ℕ) × (i < bound) × (slice_get keys i ≡ Some n)

-- under the number of its source exactly the demanded edges, all sources with a number; the ends have the first numbers; and by its site exactly the demanded
-- start nodes
pub record AreRoads (p : LinkedProgram) (t : Node) (r : Roads) : Type 0 where
  pub edges : (i : ℕ) (e : Edge) → Has (row r.edges i) e ↔ ((slice_get r.nodes.keys i ≡ Some e.from) × EdgeIn p (about t) e.from e.kind e.to)
  pub numbered : (e : Edge) → EdgeIn p (about t) e.from e.kind e.to → Has r.nodes.keys e.from
  pub ends : (n : Node) → IsAmongFirst r.nodes.keys r.ends n ↔ IsEnd p t n
  pub starts : (o : Site) (n : Node) → Has (found_at origin.eq-value.it r.starts (record { site = o })) n ↔ StartIn p (about t) o n

-- those of the view are of its program and its target
abbrev pub IsView : View → Type 0
IsView v = AreRoads v.linked.now v.target v.roads.now

-- what holds in the view's program, of its target
abbrev pub EdgeOf : View → Edge → Type 0
EdgeOf v e = EdgeIn v.linked.now (about v.target) e.from e.kind e.to

-- all of them that lead from the node
abbrev pub AreEdgesAt : View → Node → List Edge → Type 0
AreEdgesAt v n edges = (e : Edge) → Has edges e ↔ ((e.from ≡ n) × EdgeOf v e)

abbrev pub EndOf : View → Node → Type 0
EndOf v n = IsEnd v.linked.now v.target n

abbrev pub StartOf : View → Site → Node → Type 0
StartOf v o n = StartIn v.linked.now (about v.target) o n

abbrev pub AreAddedIn : View → Noted → Noted → Type 0
AreAddedIn v old new = AreAdded v.linked.now v.target old new

abbrev pub GivesIn : View → Noted → Line → Fact → Type 0
GivesIn v w line fact = Gives v.linked.now v.target w.given line (Some fact)
