-- The call system without what forgets call strings. Static fields and stores are no pushdown rules: what comes through them may be at its node under
-- each string of the method, as at a start node. So they make further start nodes, and these in turn may make more.
use Rattle.std.specs.Prelude.{◌↔◌, List, ◌∷◌}
use Rattle.lists.specs.Lists.{Has}
use Rattle.link_rules.specs.Linked.{LinkedProgram}
use Rattle.link_sites.specs.declared.place.Place.{Place}
use Rattle.link_sites.specs.declared.site.Site.{Site}
use Rattle.spds_rules.specs.declared.edge.EdgeKind.{EdgeKind}
use Rattle.spds_rules.specs.declared.edge.EdgeKind.TheVariants.{Call, Jump, Return}
use Rattle.spds_rules.specs.declared.node.Node.{Node}
use Rattle.spds_rules.specs.declared.store.StoreAt.{StoreAt}
use Rattle.spds_rules.specs.Demand.{Asked, EdgeIn, StartIn}
use Rattle.spds_rules.specs.Systems.{InCalls, IsString, KeepsCalls}
use Rattle.spds_laws.specs.Found.{Listed, Triple}

-- what edges that keep, push and pop calls give from some nodes, each with every string of its method
pub data FromStarts (p : LinkedProgram) (q : Asked) (Start : Node → Type 0) : Node → List Place → Type 0 where
  start : {n : Node} {string : List Place} → Start n → IsString p n.place.method string → FromStarts p q Start n string
  keep : {a b : Node} {kind : EdgeKind} {string : List Place} → EdgeIn p q a kind b → KeepsCalls kind → FromStarts p q Start a string
      → FromStarts p q Start b string
  push : {a b : Node} {call : Place} {string : List Place} → EdgeIn p q a (Call call) b → FromStarts p q Start a string
      → FromStarts p q Start b (call ∷ string)
  pop : {a b : Node} {call : Place} {string : List Place} → EdgeIn p q a (Return call) b → FromStarts p q Start a (call ∷ string)
      → FromStarts p q Start b string

-- some string is given there
abbrev pub Arrives : LinkedProgram → Asked → (Node → Type 0) → Node → Type 0
Arrives p q Start n = (string : List Place) × FromStarts p q Start n string

-- the node is to be a start node, where these are: one of the site, or one that a static field or a store comes to
pub data IsAsked (p : LinkedProgram) (q : Asked) (Meet : Site → Site → StoreAt → Type 0) (o : Site) (Start : Node → Type 0) : Node → Type 0 where
  own : {n : Node} → StartIn p q o n → IsAsked p q Meet o Start n
  jump : {a b : Node} → EdgeIn p q a Jump b → Arrives p q Start a → IsAsked p q Meet o Start b
  store : {base : Site} {s : StoreAt} {n : Node} → Meet o base s → StartIn p q base n → Arrives p q Start s.arg → IsAsked p q Meet o Start n

mutual
  -- the start nodes of a site over meets: the least set that holds what it asks for
  pub data IsOpen (p : LinkedProgram) (q : Asked) (Meet : Site → Site → StoreAt → Type 0) (o : Site) : Node → Type 0 where
    own : {n : Node} → StartIn p q o n → IsOpen p q Meet o n
    jump : {a b : Node} {string : List Place} → EdgeIn p q a Jump b → FromOpen p q Meet o a string → IsOpen p q Meet o b
    store : {base : Site} {s : StoreAt} {n : Node} {string : List Place} → Meet o base s → StartIn p q base n → FromOpen p q Meet o s.arg string
        → IsOpen p q Meet o n

  -- what edges give from those
  pub data FromOpen (p : LinkedProgram) (q : Asked) (Meet : Site → Site → StoreAt → Type 0) (o : Site) : Node → List Place → Type 0 where
    start : {n : Node} {string : List Place} → IsOpen p q Meet o n → IsString p n.place.method string → FromOpen p q Meet o n string
    keep : {a b : Node} {kind : EdgeKind} {string : List Place} → EdgeIn p q a kind b → KeepsCalls kind → FromOpen p q Meet o a string
        → FromOpen p q Meet o b string
    push : {a b : Node} {call : Place} {string : List Place} → EdgeIn p q a (Call call) b → FromOpen p q Meet o a string
        → FromOpen p q Meet o b (call ∷ string)
    pop : {a b : Node} {call : Place} {string : List Place} → EdgeIn p q a (Return call) b → FromOpen p q Meet o a (call ∷ string)
        → FromOpen p q Meet o b string

-- a list of nodes that holds what it asks for, and only start nodes
pub record AreStarts (p : LinkedProgram) (q : Asked) (Meet : Site → Site → StoreAt → Type 0) (o : Site) (nodes : List Node) : Type 0 where
  pub open_each : (n : Node) → Has nodes n → IsOpen p q Meet o n
  pub holds_asked : (n : Node) → IsAsked p q Meet o (Has nodes) n → Has nodes n

-- from such a list edges give the call system, over any list of triples
abbrev pub CallsAreFromStarts : Type 0
CallsAreFromStarts = (p : LinkedProgram) (q : Asked) (triples : List Triple) (o : Site) (nodes : List Node) → AreStarts p q (Listed triples) o nodes
    → (n : Node) (string : List Place) → InCalls p q (Listed triples) o n string ↔ FromStarts p q (Has nodes) n string
