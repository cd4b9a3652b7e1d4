-- What a line of a certificate gives: a fact of one of the two pushdown systems of a query, over the facts that the lines before it gave.
use Rattle.std.specs.Prelude.{◌≡◌, ℕ, zero, suc, List, [], ◌∷◌, Option, Some, None, slice_get}
use Rattle.link_rules.specs.Linked.{LinkedProgram}
use Rattle.link_sites.specs.declared.place.Place.{Place}
use Rattle.link_sites.specs.declared.site.Site.{Site}
use Rattle.link_sites.specs.Sites.{HasField}
use Rattle.spds_rules.specs.declared.edge.EdgeKind.{EdgeKind}
use Rattle.spds_rules.specs.declared.edge.EdgeKind.TheVariants as edge
use Rattle.spds_rules.specs.declared.node.Node.{Node}
use Rattle.spds_rules.specs.declared.store.StoreAt.{StoreAt}
use Rattle.spds_rules.specs.Demand.{Asked, EdgeIn, StartIn, StoreIn, about}
use Rattle.spds_rules.specs.Systems.{IsString, KeepsCalls, KeepsFields}
use Rattle.cert_rules.specs.declared.fact.Entry.{Entry}
use Rattle.cert_rules.specs.declared.fact.Entry.TheVariants as entry
use Rattle.cert_rules.specs.declared.fact.Entry.TheVariants.{Base}
use Rattle.cert_rules.specs.declared.fact.Fact.{Fact}
use Rattle.cert_rules.specs.declared.fact.Fact.TheVariants.{At, Link, Shared, Met}
use Rattle.cert_rules.specs.declared.line.Line.{Line}
use Rattle.cert_rules.specs.declared.line.Line.TheVariants as line
use Rattle.cert_rules.specs.declared.line.Side.{Side}
use Rattle.cert_rules.specs.declared.line.Side.TheVariants.{Field, Call}

-- what lines gave, each a fact, or nothing for a claim
abbrev pub Facts : Type 0
Facts = List (Option Fact)

-- the line with the number, from 1, gave the fact
abbrev pub Cites : Facts → ℕ → Fact → Type 0
Cites given zero fact = ⊥
Cites given (suc number) fact = slice_get given number ≡ Some (Some fact)

-- an edge of the kind keeps the words of the side
abbrev pub Keeps : Side → EdgeKind → Type 0
Keeps Field kind = KeepsFields kind
Keeps Call kind = KeepsCalls kind

-- an edge of the kind takes the entry's first letter off: a load its field, a return its call
abbrev pub Takes : Side → Entry → EdgeKind → Type 0
Takes Field (entry.Field node field) (edge.Load loaded) = field ≡ loaded
Takes Call (entry.Call node call) (edge.Return returned) = call ≡ returned
Takes _ _ _ = ⊥

-- The call string is read from the entry of an object, whose words are of the method. Its first calls are those of entries, one for each line cited,
-- which gave the link to the next entry; the last entry is the base, and the rest of the string is one of the method then reached.
abbrev pub ReadsOn : LinkedProgram → Facts → Site → List ℕ → Entry → ℕ → List Place → Type 0
ReadsOn p given o [] e method string = (e ≡ Base) × IsString p method string
ReadsOn p given o (link ∷ links) e method [] = ⊥
ReadsOn p given o (link ∷ links) e method (call ∷ string) =
    (node : Node) × (below : Entry) × (e ≡ entry.Call node call) × Cites given link (Link Call o e below) × ReadsOn p given o links below call.method string

-- the same from the first line cited, which gave that the object is at the node, with the entry
abbrev pub Reads : LinkedProgram → Facts → Site → List ℕ → Node → List Place → Type 0
Reads p given o [] n string = ⊥
Reads p given o (first ∷ links) n string = (e : Entry) × Cites given first (At Call o e n) × ReadsOn p given o links e n.place.method string

-- What the rows of the table ask for, each of a query and of what was given before.
module _ (p : LinkedProgram) (q : Asked) (given : Facts) where
  -- the cited line put an object at a node, from which an edge of the kind leads
  pub record Leads (side : Side) (from : ℕ) (kind : EdgeKind) (n : Node) : Type 0 where
    pub site : Site
    pub entry : Entry
    pub source : Node
    pub cited : Cites given from (At side site entry source)
    pub edge : EdgeIn p q source kind n

  -- the cited line put an object at the argument of a store into an object that starts at the node
  pub record IsPut (side : Side) (from meet : ℕ) (n : Node) : Type 0 where
    pub site : Site
    pub entry : Entry
    pub base : Site
    pub store : StoreAt
    pub cited : Cites given from (At side site entry store.arg)
    pub met : Cites given meet (Met site base store)
    pub start : StartIn p q base n

  -- two objects may be at two nodes under the call string
  pub record AreUnder (first second : List ℕ) (string : List Place) : Type 0 where
    pub object : Site
    pub arg : Node
    pub base : Site
    pub at : Node
    pub reads_object : Reads p given object first arg string
    pub reads_base : Reads p given base second at string

  -- one object may be stored into another, at the store's nodes under one call string; the other is there as itself, and has the field
  pub record MayBeStored (shared is_base : ℕ) : Type 0 where
    pub object : Site
    pub base : Site
    pub store : StoreAt
    pub under_one : Cites given shared (Shared object store.arg base store.base)
    pub as_base : Cites given is_base (At Field base Base store.base)
    pub store_in : StoreIn p q store
    pub has : HasField p base store.field

  -- an object is at the node as itself, and under some call string
  pub record IsHeld (field call : ℕ) (n : Node) : Type 0 where
    pub site : Site
    pub entry : Entry
    pub by_fields : Cites given field (At Field site Base n)
    pub by_calls : Cites given call (At Call site entry n)

-- What a line gives for the query of the target, over what the lines before it gave: the table of certificates, a row a line.
abbrev pub Gives : LinkedProgram → Node → Facts → Line → Option Fact → Type 0
Gives p t given (line.Start side n) g = (o : Site) × StartIn p (about t) o n × (g ≡ Some (At side o Base n))
Gives p t given (line.Jump from n) g = (l : Leads p (about t) given Call from edge.Jump n) × (g ≡ Some (At Call l.site Base n))
Gives p t given (line.Put from meet n) g = (s : IsPut p (about t) given Call from meet n) × (g ≡ Some (At Call s.site Base n))
Gives p t given (line.Flow side from n) g =
    (kind : EdgeKind) × (l : Leads p (about t) given side from kind n) × Keeps side kind × (g ≡ Some (At side l.site l.entry n))
Gives p t given (line.PushField from meet n) g =
    (s : IsPut p (about t) given Field from meet n) × (g ≡ Some (At Field s.site (entry.Field n s.store.field) n))
Gives p t given (line.PushCall from n) g =
    (call : Place) × (l : Leads p (about t) given Call from (edge.Call call) n) × (g ≡ Some (At Call l.site (entry.Call n call) n))
Gives p t given (line.LinkField from meet n) g =
    (s : IsPut p (about t) given Field from meet n) × (g ≡ Some (Link Field s.site (entry.Field n s.store.field) s.entry))
Gives p t given (line.LinkCall from n) g =
    (call : Place) × (l : Leads p (about t) given Call from (edge.Call call) n) × (g ≡ Some (Link Call l.site (entry.Call n call) l.entry))
Gives p t given (line.Pop side from link n) g =
    (kind : EdgeKind) × (below : Entry) × (l : Leads p (about t) given side from kind n) × Takes side l.entry kind
    × Cites given link (Link side l.site l.entry below) × (g ≡ Some (At side l.site below n))
Gives p t given (line.BasePop from n) g =
    (call : Place) × (l : Leads p (about t) given Call from (edge.Return call) n) × (l.entry ≡ Base) × (g ≡ Some (At Call l.site Base n))
Gives p t given (line.Shared first second string) g =
    (u : AreUnder p (about t) given first second string) × (g ≡ Some (Shared u.object u.arg u.base u.at))
Gives p t given (line.Meet shared base) g = (s : MayBeStored p (about t) given shared base) × (g ≡ Some (Met s.object s.base s.store))
Gives p t given (line.Claim field call) g = IsHeld p (about t) given field call t × (g ≡ None)
