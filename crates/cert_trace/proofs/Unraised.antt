-- No exception is in flight at the calls that lines give, and so none at those of a call string that is read by them.
use Rattle.std.proofs.Common.{◌≡◌, ℕ, ◌<◌, List, [], ◌∷◌, All, Some, length, refl, sym, ap, subst, arith}
use Rattle.std.proofs.lemmas.List.Elements.{All-cons, All-nil}
use Rattle.link_rules.specs.Linked.{LinkedProgram}
use Rattle.link_sites.specs.declared.place.Place.{Place}
use Rattle.link_sites.specs.declared.site.Site.{Site}
use Rattle.link_sites.specs.Places.{before}
use Rattle.spds_rules.specs.declared.edge.EdgeKind.TheVariants as edge
use Rattle.spds_rules.specs.declared.node.Node.{Node}
use Rattle.spds_rules.specs.Demand.{EdgeIn, about}
use Rattle.spds_rules.specs.Systems.{IsString}
use Rattle.spds_laws.proofs.Crossings.{call_leads}
use Rattle.cert_rules.specs.declared.fact.Entry.{Entry}
use Rattle.cert_rules.specs.declared.fact.Entry.TheVariants as entry
use Rattle.cert_rules.specs.declared.fact.Entry.TheVariants.{Base}
use Rattle.cert_rules.specs.declared.fact.Fact.{Fact}
use Rattle.cert_rules.specs.declared.fact.Fact.TheVariants.{At, Link, Shared, Met}
use Rattle.cert_rules.specs.declared.line.Line.{Line}
use Rattle.cert_rules.specs.declared.line.Line.TheVariants as line
use Rattle.cert_rules.specs.declared.line.Side.TheVariants.{Field, Call}
use Rattle.cert_rules.specs.Given.{Cites, Facts, Gives, Reads, ReadsOn}
use Rattle.cert_laws.proofs.Sound.{some_same}
use Rattle.cert_trace.specs.Fitting.{IsUnraised, IsWellRead}

-- the call of an entry, if it has one
abbrev pub IsCallUnraised : Entry → Type 0
IsCallUnraised Base = Unit {0}
IsCallUnraised (entry.Field node field) = Unit {0}
IsCallUnraised (entry.Call node call) = IsUnraised call

-- the calls of a fact
abbrev pub AreCallsUnraised : Fact → Type 0
AreCallsUnraised (At side o e n) = IsCallUnraised e
AreCallsUnraised (Link side o e below) = IsCallUnraised e × IsCallUnraised below
AreCallsUnraised (Shared o n b m) = Unit {0}
AreCallsUnraised (Met o b s) = Unit {0}

abbrev pub AreAllUnraised : Facts → Type 0
AreAllUnraised given = (number : ℕ) (fact : Fact) → Cites given number fact → AreCallsUnraised fact

as_given : {f : Fact} (a : Fact) → Some f ≡ Some a → AreCallsUnraised a → AreCallsUnraised f
as_given {f} a e is = let same : f ≡ a = some_same e in subst AreCallsUnraised (sym same) is

module _ (p : LinkedProgram) where
  string_unraised : {method : ℕ} {string : List Place} → IsString p method string → All IsUnraised string
  string_unraised (IsString.root last) = All-nil IsUnraised
  string_unraised (IsString.called {number} {index} {target} {string} has below) = All-cons IsUnraised (before number index) string refl (string_unraised below)

  module _ (t : Node) where
    called : (a b : Node) (call : Place) → EdgeIn p (about t) a (edge.Call call) b → IsUnraised call
    called a b call e = ap (λ (c : Place). c.raised) (call_leads p a b call e.0).is_before

    module _ (given : Facts) (all : AreAllUnraised given) where
      pub gives_unraised : (l : Line) (f : Fact) → Gives p t given l (Some f) → AreCallsUnraised f
      gives_unraised (line.Start side n) f g = as_given (At side g.0 Base n) g.2 tt
      gives_unraised (line.Jump from n) f g = as_given (At Call g.0.site Base n) g.1 tt
      gives_unraised (line.Put from meet n) f g = as_given (At Call g.0.site Base n) g.1 tt
      gives_unraised (line.Flow side from n) f g = as_given (At side g.1.site g.1.entry n) g.3 (all from _ g.1.cited)
      gives_unraised (line.PushField from meet n) f g = as_given (At Field g.0.site (entry.Field n g.0.store.field) n) g.1 tt
      gives_unraised (line.PushCall from n) f g = as_given (At Call g.1.site (entry.Call n g.0) n) g.2 (called g.1.source n g.0 g.1.edge)
      gives_unraised (line.LinkField from meet n) f g =
          as_given (Link Field g.0.site (entry.Field n g.0.store.field) g.0.entry) g.1 (tt, all from _ g.0.cited)
      gives_unraised (line.LinkCall from n) f g =
          as_given (Link Call g.1.site (entry.Call n g.0) g.1.entry) g.2 (called g.1.source n g.0 g.1.edge, all from _ g.1.cited)
      gives_unraised (line.Pop side from link n) f g = let below = all link _ g.4 in as_given (At side g.2.site g.1 n) g.5 below.1
      gives_unraised (line.BasePop from n) f g = as_given (At Call g.1.site Base n) g.3 tt
      gives_unraised (line.Shared first second string) f g = as_given (Shared g.0.object g.0.arg g.0.base g.0.at) g.1 tt
      gives_unraised (line.Meet shared base) f g = as_given (Met g.0.object g.0.base g.0.store) g.1 tt
      gives_unraised (line.Claim field call) f g = let e = g.1 in cc

      read_on : (o : Site) (links : List ℕ) (e : Entry) (method : ℕ) (string : List Place) → IsCallUnraised e → ReadsOn p given o links e method string → All IsUnraised string
      read_on o [] e method string un r = string_unraised r.1
      read_on o (link ∷ links) e method [] un r = absurd r
      read_on o (link ∷ links) e method (call ∷ string) un r =
          let below = all link _ r.3 in
          All-cons IsUnraised call string (subst IsCallUnraised r.2 un) (read_on o links r.1 call.method string below.1 r.4)

      read : (o : Site) (numbers : List ℕ) (n : Node) (string : List Place) → Reads p given o numbers n string → All IsUnraised string
      read o [] n string r = absurd r
      read o (first ∷ links) n string r = read_on o links r.0 n.place.method string (all first _ r.1) r.2

      some_read : (o : Site) (numbers : List ℕ) (n : Node) (string : List Place) → Reads p given o numbers n string → 0 < length numbers
      some_read o [] n string r = absurd r
      some_read o (first ∷ links) n string r = omega arith

      -- a line that gives something is well read
      pub gives_well_read : (l : Line) (f : Fact) → Gives p t given l (Some f) → IsWellRead l
      gives_well_read (line.Shared first second string) f g =
          let u = g.0 in
          (some_read u.object first u.arg string u.reads_object, some_read u.base second u.at string u.reads_base, read u.object first u.arg string u.reads_object)
      gives_well_read (line.Start side n) f g = tt
      gives_well_read (line.Jump from n) f g = tt
      gives_well_read (line.Put from meet n) f g = tt
      gives_well_read (line.Flow side from n) f g = tt
      gives_well_read (line.PushField from meet n) f g = tt
      gives_well_read (line.PushCall from n) f g = tt
      gives_well_read (line.LinkField from meet n) f g = tt
      gives_well_read (line.LinkCall from n) f g = tt
      gives_well_read (line.Pop side from link n) f g = tt
      gives_well_read (line.BasePop from n) f g = tt
      gives_well_read (line.Meet shared base) f g = tt
      gives_well_read (line.Claim field call) f g = tt
