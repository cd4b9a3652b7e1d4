-- What the rules give over facts that lines gave, rule by rule: it is there, and no longer than this.
use Rattle.std.specs.Prelude.{◌≡◌, ◌≤◌, ◌+◌, ◌⊎◌, ℕ, zero, suc}
use Rattle.link_rules.specs.Linked.{LinkedProgram}
use Rattle.link_sites.specs.declared.site.Site.{Site}
use Rattle.spds_rules.specs.declared.edge.Edge.{Edge}
use Rattle.spds_rules.specs.declared.edge.EdgeKind.{EdgeKind}
use Rattle.spds_rules.specs.declared.edge.EdgeKind.TheVariants as edge
use Rattle.spds_rules.specs.declared.node.Node.{Node}
use Rattle.spds_rules.specs.declared.store.StoreAt.{StoreAt}
use Rattle.spds_rules.specs.Demand.{EdgeIn, StartIn, about}
use Rattle.cert_rules.specs.declared.fact.Entry.{Entry}
use Rattle.cert_rules.specs.declared.fact.Entry.TheVariants as entry
use Rattle.cert_rules.specs.declared.fact.Entry.TheVariants.{Base}
use Rattle.cert_rules.specs.declared.fact.Fact.TheVariants.{At, Link, Met}
use Rattle.cert_rules.specs.declared.line.Side.{Side}
use Rattle.cert_rules.specs.declared.line.Side.TheVariants.{Field, Call}
use Rattle.cert_rules.specs.Given.{Cites, Takes}
use Rattle.cert_rules.specs.Lengths.{cited_length}
use Rattle.cert_lines.specs.Noted.{IsBettered, IsThere, Noted}
use Rattle.cert_work.specs.declared.wants.Wants.{Wants}
use Rattle.cert_work.specs.Wants.{IsFollowedAt}

-- one rule more than so many: in the system of calls none is counted
abbrev pub one_more : Side → ℕ → ℕ
one_more Field length = length + 1
one_more Call length = 0

-- along an edge of the kind to the node, of an object that is where it begins by a line of the length
abbrev pub GoesOn : Noted → ℕ → Side → Site → Entry → EdgeKind → Node → Type 0
GoesOn w length Field o x edge.Flow to = IsThere w (At Field o x to) (length + 1)
GoesOn w length Field o x (edge.Load field) to = Unit {0}
GoesOn w length Field o x (edge.Call call) to = IsThere w (At Field o x to) (length + 1)
GoesOn w length Field o x (edge.Return call) to = IsThere w (At Field o x to) (length + 1)
GoesOn w length Field o x edge.Jump to = IsThere w (At Field o x to) (length + 1)
GoesOn w length Call o x edge.Flow to = IsThere w (At Call o x to) 0
GoesOn w length Call o x (edge.Load field) to = IsThere w (At Call o x to) 0
GoesOn w length Call o x (edge.Call call) to = IsThere w (At Call o (entry.Call to call) to) 0 × IsThere w (Link Call o (entry.Call to call) x) 0
GoesOn w length Call o x (edge.Return call) to = x ≡ Base → IsThere w (At Call o Base to) 0
GoesOn w length Call o x edge.Jump to = IsThere w (At Call o Base to) 0

-- along the edge, of what the line with the number, from 1, gives
abbrev pub IsAlong : Noted → ℕ → Edge → Type 0
IsAlong w i e = (side : Side) (o : Site) (x : Entry) → Cites w.given i (At side o x e.from) → GoesOn w (cited_length w.lengths i) side o x e.kind e.to

-- along the edge, which takes the first letter off; the other line gives what stands below it
abbrev pub IsPopped : Noted → ℕ → ℕ → Edge → Type 0
IsPopped w i link e = (side : Side) (o : Site) (x below : Entry) → Cites w.given i (At side o x e.from) → Cites w.given link (Link side o x below)
    → Takes side x e.kind → IsThere w (At side o below e.to) (one_more side (cited_length w.lengths i + cited_length w.lengths link))

-- through a store into the field of an object that starts at the node
abbrev pub GoesInto : Noted → ℕ → Side → Site → Entry → ℕ → Node → Type 0
GoesInto w length Field o x field to = IsThere w (At Field o (entry.Field to field) to) 0 × IsThere w (Link Field o (entry.Field to field) x) (length + 1)
GoesInto w length Call o x field to = IsThere w (At Call o Base to) 0

-- the other line gives that it may be stored into one of the base, which starts there
abbrev pub IsPut : Noted → ℕ → ℕ → Site → Node → Type 0
IsPut w i met base n = (side : Side) (o : Site) (x : Entry) (s : StoreAt) → Cites w.given i (At side o x s.arg) → Cites w.given met (Met o base s)
    → GoesInto w (cited_length w.lengths i) side o x s.field n

-- a line further on gives what the line with the number, from 1, gives, and is no longer
abbrev pub IsBetteredAt : Noted → ℕ → Type 0
IsBetteredAt w zero = ⊥
IsBetteredAt w (suc k) = IsBettered w k

-- the three, unless such a line is there
abbrev pub IsAlongIfBest : Noted → ℕ → Edge → Type 0
IsAlongIfBest w i e =
    (side : Side) (o : Site) (x : Entry) → Cites w.given i (At side o x e.from) → GoesOn w (cited_length w.lengths i) side o x e.kind e.to ⊎ IsBetteredAt w i

abbrev pub IsPoppedIfBest : Noted → ℕ → ℕ → Edge → Type 0
IsPoppedIfBest w i link e = (side : Side) (o : Site) (x below : Entry) → Cites w.given i (At side o x e.from) → Cites w.given link (Link side o x below)
    → Takes side x e.kind → IsThere w (At side o below e.to) (one_more side (cited_length w.lengths i + cited_length w.lengths link)) ⊎ IsBetteredAt w i

abbrev pub IsPutIfBest : Noted → ℕ → ℕ → Site → Node → Type 0
IsPutIfBest w i met base n = (side : Side) (o : Site) (x : Entry) (s : StoreAt) → Cites w.given i (At side o x s.arg) → Cites w.given met (Met o base s)
    → GoesInto w (cited_length w.lengths i) side o x s.field n ⊎ IsBetteredAt w i

-- if the line put an object somewhere, it is followed there
abbrev pub IsFollowed : Wants → Noted → ℕ → Type 0
IsFollowed wants w i = (side : Side) (o : Site) (x : Entry) (n : Node) → Cites w.given i (At side o x n) → IsFollowedAt wants o x n

-- what the rules give of the lines up to the number is there, as far as objects are followed
pub record AreWorked (p : LinkedProgram) (t : Node) (wants : Wants) (w : Noted) (done : ℕ) : Type 0 where
  pub along : (i : ℕ) (e : Edge) → i ≤ done → IsFollowed wants w i → EdgeIn p (about t) e.from e.kind e.to → IsAlong w i e
  pub popped : (i link : ℕ) (e : Edge) → i ≤ done → link ≤ done → IsFollowed wants w i → EdgeIn p (about t) e.from e.kind e.to → IsPopped w i link e
  pub put : (i met : ℕ) (base : Site) (n : Node) → i ≤ done → met ≤ done → IsFollowed wants w i → StartIn p (about t) base n → IsPut w i met base n

-- the same, unless better lines give what these give
pub record AreWorkedIfBest (p : LinkedProgram) (t : Node) (wants : Wants) (w : Noted) (done : ℕ) : Type 0 where
  pub along : (i : ℕ) (e : Edge) → i ≤ done → IsFollowed wants w i → EdgeIn p (about t) e.from e.kind e.to → IsAlongIfBest w i e
  pub popped : (i link : ℕ) (e : Edge) → i ≤ done → link ≤ done → IsFollowed wants w i → EdgeIn p (about t) e.from e.kind e.to → IsPoppedIfBest w i link e
  pub put : (i met : ℕ) (base : Site) (n : Node) → i ≤ done → met ≤ done → IsFollowed wants w i → StartIn p (about t) base n → IsPutIfBest w i met base n
