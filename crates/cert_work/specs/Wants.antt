-- Where objects are followed, and that this is all that the answers of a query need.
use Rattle.std.specs.Prelude.{◌≡◌, ◌⊎◌, ◌++◌, ℕ, List, true}
use Rattle.link_rules.specs.Linked.{LinkedProgram}
use Rattle.link_sites.specs.declared.site.Site.{Site}
use Rattle.lists.specs.Lists.{Has}
use Rattle.spds_rules.specs.declared.edge.Edge.{Edge}
use Rattle.spds_rules.specs.declared.edge.EdgeKind.{EdgeKind}
use Rattle.spds_rules.specs.declared.edge.EdgeKind.TheVariants.{Load}
use Rattle.spds_rules.specs.declared.node.Node.{Node}
use Rattle.spds_rules.specs.declared.store.StoreAt.{StoreAt}
use Rattle.spds_rules.specs.Answers.{IsAnswered}
use Rattle.spds_rules.specs.Demand.{EdgeIn, StartIn, about}
use Rattle.spds_rules.specs.Systems.{KeepsFields}
use Rattle.cert_rules.specs.declared.fact.Entry.{Entry}
use Rattle.cert_rules.specs.declared.fact.Entry.TheVariants as entry
use Rattle.cert_lines.specs.declared.keys.Spot.{Spot}
use Rattle.cert_work.specs.declared.wants.Ahead.{Ahead}
use Rattle.cert_work.specs.declared.wants.Wants.{Wants}

-- objects of the site are followed everywhere
abbrev pub IsEverywhere : Wants → Site → Type 0
IsEverywhere w o = Has w.sites.keys (record { site = o })

-- they are followed at the node
abbrev pub IsWanted : Wants → Site → Node → Type 0
IsWanted w o n = IsEverywhere w o ⊎ Has w.spots.keys (record { site = o; node = n })

-- the node lies before loads of the field
abbrev pub IsAhead : Ahead → ℕ → Node → Type 0
IsAhead a f n = (a.everywhere ≡ true) ⊎ Has a.fields.keys (record { field = f; node = n })

-- it lies before loads of the field with which the words of the entry begin, if they begin with one
abbrev pub IsAheadUnder : Ahead → Entry → Node → Type 0
IsAheadUnder a entry.Base n = Unit {0}
IsAheadUnder a (entry.Field node field) n = IsAhead a field n
IsAheadUnder a (entry.Call node call) n = Unit {0}

-- objects of the site are followed at the node under words of the entry
abbrev pub IsFollowedAt : Wants → Site → Entry → Node → Type 0
IsFollowedAt w o x n = IsWanted w o n × IsAheadUnder w.ahead x n

-- those of the same sites are followed everywhere, and others at the same nodes and maybe at more
pub record IsWider (old new : Wants) : Type 0 where
  pub sites : new.sites.keys ≡ old.sites.keys
  pub more : List Spot
  pub spots : new.spots.keys ≡ old.spots.keys ++ more
  pub ahead : new.ahead ≡ old.ahead

-- Where a load stands, it lies ahead. What leads to such a node along edges that keep the fields lies before the same loads, and so does what is stored into
-- a field that is loaded where what it leads to lies before them.
pub record AreAhead (p : LinkedProgram) (t : Node) (a : Ahead) (Meet : Site → Site → StoreAt → Type 0) : Type 0 where
  pub loaded : (f : ℕ) (x y : Node) → EdgeIn p (about t) x (Load f) y → IsAhead a f x
  pub kept : (f : ℕ) (x y : Node) (kind : EdgeKind) → EdgeIn p (about t) x kind y → KeepsFields kind → IsAhead a f y → IsAhead a f x
  pub stored : (f : ℕ) (x y : Node) (o base : Site) (s : StoreAt) → Meet o base s → EdgeIn p (about t) x (Load s.field) y → IsAhead a f y → IsAhead a f s.arg

-- Objects of answered sites are followed at the target, and all are followed back from wherever they are followed: along edges, and through stores into
-- objects, which are followed at the stores themselves.
pub record AreWants (p : LinkedProgram) (t : Node) (w : Wants) (Meet : Site → Site → StoreAt → Type 0) : Type 0 where
  pub answered : (o : Site) → IsAnswered p (about t) t o → IsWanted w o t
  pub back : (o : Site) (e : Edge) → EdgeIn p (about t) e.from e.kind e.to → IsWanted w o e.to → IsWanted w o e.from
  pub stored : (o base : Site) (s : StoreAt) (n : Node) → Meet o base s → StartIn p (about t) base n → IsWanted w o n → IsWanted w o s.arg
  pub into : (o base : Site) (s : StoreAt) (n : Node) → Meet o base s → StartIn p (about t) base n → IsWanted w o n → IsWanted w base s.base
  pub ahead : AreAhead p t w.ahead Meet
