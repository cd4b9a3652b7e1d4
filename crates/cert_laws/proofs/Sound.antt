-- What is certified is answered.
use Rattle.std.proofs.Common.{◌≡◌, ℕ, zero, suc, ◌+◌, ◌<◌, ◌≤◌, List, [], ◌∷◌, Option, Some, take, slice_get, refl, sym, subst, ◌∙◌, arith}
use Rattle.lists.proofs.Places.{slice_get-below, slice_get-there}
use Rattle.lists.proofs.Joined.{slice_get-taken}
use Rattle.link_rules.specs.Linked.{LinkedProgram}
use Rattle.link_rules.specs.WellLinked.{IsWellLinked}
use Rattle.link_sites.specs.declared.place.Place.{Place}
use Rattle.link_sites.specs.declared.site.Site.{Site}
use Rattle.spds_rules.specs.declared.node.Node.{Node}
use Rattle.spds_rules.specs.declared.store.StoreAt.{StoreAt}
use Rattle.spds_rules.specs.Answers.{IsAnswered}
use Rattle.spds_rules.specs.Nodes.{IsNode}
use Rattle.spds_rules.specs.Systems.{Calls, InCalls, InFields, Meets}
use Rattle.spds_laws.proofs.Rounds.{meets_closed, meets_stored}
use Rattle.spds_laws.proofs.Within.{calls_within_demand, fields_within}
use Rattle.cert_rules.specs.declared.fact.Entry.{Entry}
use Rattle.cert_rules.specs.declared.fact.Entry.TheVariants as entry
use Rattle.cert_rules.specs.declared.fact.Entry.TheVariants.{Base}
use Rattle.cert_rules.specs.declared.fact.Fact.{Fact}
use Rattle.cert_rules.specs.declared.fact.Fact.TheVariants.{At, Link, Shared, Met}
use Rattle.cert_rules.specs.declared.line.Line.{Line}
use Rattle.cert_rules.specs.declared.line.Line.TheVariants as line
use Rattle.cert_rules.specs.declared.line.Side.TheVariants.{Field, Call}
use Rattle.cert_rules.specs.Certified.{AreGiven, IsCertified}
use Rattle.spds_rules.specs.Demand.{about}
use Rattle.cert_rules.specs.Given.{Cites, Facts, Gives, Reads, ReadsOn}
use Rattle.cert_laws.proofs.Givens.{cites_one, claim_held, taken_below}
use Rattle.cert_laws.proofs.Means.{Means, MeansAt, Reaches, called_below, kept, popped, reaches_at, reaches_link, returned_base, some_string, stored_below}

-- an element of an option is the one
pub some_same : {X : Type 0} {a b : X} → Some a ≡ Some b → a ≡ b
some_same e = cc

module _ (p : LinkedProgram) (t : Node) (well : IsWellLinked p) where
  -- what is cited holds
  abbrev pub AllHold : Facts → Type 0
  AllHold given = (number : ℕ) (fact : Fact) → Cites given number fact → Means p (about t) fact

  module _ (given : Facts) (hold : AllHold given) where
    -- a fact that is given, where what it is the same as holds
    as_given : {f : Fact} (a : Fact) → Some f ≡ Some a → Means p (about t) a → Means p (about t) f
    as_given {f} a e h = let same : f ≡ a = some_same e in subst (Means p (about t)) (sym same) h

    -- the strings that are read
    read_on : (o : Site) (links : List ℕ) (e : Entry) (method : ℕ) (string : List Place) → ReadsOn p given o links e method string → Reaches p (about t) o e method string
    read_on o [] e method string r = subst (λ (x : Entry). Reaches p (about t) o x method string) (sym r.0) r.1
    read_on o (link ∷ links) e method [] r = absurd r
    read_on o (link ∷ links) e method (call ∷ string) r =
        let below = read_on o links r.1 call.method string r.4 in
        let linked : Cites given link (Link Call o (entry.Call r.0 call) r.1) = subst (λ (x : Entry). Cites given link (Link Call o x r.1)) r.2 r.3 in
        let at = reaches_link p (about t) o r.0 call r.1 string (hold link (Link Call o (entry.Call r.0 call) r.1) linked) below in
        subst (λ (x : Entry). Reaches p (about t) o x method (call ∷ string)) (sym r.2) (string, refl, at)

    read : (o : Site) (numbers : List ℕ) (n : Node) (string : List Place) → Reads p given o numbers n string → Calls p (about t) o n string
    read o [] n string r = absurd r
    read o (first ∷ links) n string r =
        reaches_at p (about t) o r.0 n string (hold first (At Call o r.0 n) r.1) (read_on o links r.0 n.place.method string r.2)

    -- the object of a meet may be at the store's argument
    arg_there : (o base : Site) (s : StoreAt) → Meets p (about t) o base s → IsNode p s.arg
    arg_there o base s m = (calls_within_demand p (about t) (Meets p (about t)) o (meets_stored p (about t) o base s m).1.at_arg).0

    -- what a line gives holds
    pub line_holds : (l : Line) (f : Fact) → Gives p t given l (Some f) → Means p (about t) f
    line_holds (line.Start Field n) f g = as_given (At Field g.0 Base n) g.2 (InFields.start g.1)
    line_holds (line.Start Call n) f g = as_given (At Call g.0 Base n) g.2 (λ string is. InCalls.start g.1 is)
    line_holds (line.Jump from n) f g =
        let l = g.0 in
        let some = some_string p (about t) well l.site l.entry l.source l.edge.0.from (hold from (At Call l.site l.entry l.source) l.cited) in
        as_given (At Call l.site Base n) g.1 (λ string is. InCalls.jump l.edge some.1 is)
    line_holds (line.Put from meet n) f g =
        let s = g.0 in
        let m = hold meet (Met s.site s.base s.store) s.met in
        let some = some_string p (about t) well s.site s.entry s.store.arg (arg_there s.site s.base s.store m) (hold from (At Call s.site s.entry s.store.arg) s.cited) in
        as_given (At Call s.site Base n) g.1 (λ string is. InCalls.store m s.start some.1 is)
    line_holds (line.Flow side from n) f g =
        let l = g.1 in
        as_given (At side l.site l.entry n) g.3 (kept p (about t) side l.site l.entry l.source n g.0 l.edge g.2 (hold from (At side l.site l.entry l.source) l.cited))
    line_holds (line.PushField from meet n) f g =
        let s = g.0 in
        as_given (At Field s.site (entry.Field n s.store.field) n) g.1 (λ word c. c)
    line_holds (line.PushCall from n) f g =
        let l = g.1 in
        let some = some_string p (about t) well l.site l.entry l.source l.edge.0.from (hold from (At Call l.site l.entry l.source) l.cited) in
        as_given (At Call l.site (entry.Call n g.0) n) g.2 ((some.0, InCalls.push l.edge some.1), λ string c. c)
    line_holds (line.LinkField from meet n) f g =
        let s = g.0 in
        as_given (Link Field s.site (entry.Field n s.store.field) s.entry) g.1
        (stored_below p (about t) s.site s.entry s.base s.store n (hold meet (Met s.site s.base s.store) s.met) s.start (hold from (At Field s.site s.entry s.store.arg) s.cited))
    line_holds (line.LinkCall from n) f g =
        let l = g.1 in
        as_given (Link Call l.site (entry.Call n g.0) l.entry) g.2
        (called_below p (about t) l.site l.entry l.source n g.0 l.edge.0.row.from l.edge (hold from (At Call l.site l.entry l.source) l.cited))
    line_holds (line.Pop side from link n) f g =
        let l = g.2 in
        as_given (At side l.site g.1 n) g.5
        (popped p (about t) side l.site l.entry g.1 l.source n g.0 g.3 (hold from (At side l.site l.entry l.source) l.cited) (hold link (Link side l.site l.entry g.1) g.4) l.edge)
    line_holds (line.BasePop from n) f g =
        let l = g.1 in
        let h : MeansAt p (about t) Call l.site Base l.source =
        subst (λ (e : Entry). MeansAt p (about t) Call l.site e l.source) g.2 (hold from (At Call l.site l.entry l.source) l.cited) in
        as_given (At Call l.site Base n) g.3 (returned_base p (about t) l.site g.0 l.source n h l.edge)
    line_holds (line.Shared first second string) f g =
        let u = g.0 in
        as_given (Shared u.object u.arg u.base u.at) g.1 (string, read u.object first u.arg string u.reads_object, read u.base second u.at string u.reads_base)
    line_holds (line.Meet shared is_base) f g =
        let s = g.0 in
        let under = hold shared (Shared s.object s.store.arg s.base s.store.base) s.under_one in
        as_given (Met s.object s.base s.store) g.1
        (meets_closed p (about t) s.object s.base s.store (
          under.0,
          record { store = s.store_in; at_arg = under.1; at_base = under.2; is_base = hold is_base (At Field s.base Base s.store.base) s.as_base; has = s.has },
        ))
    line_holds (line.Claim field call) f g = cc

  -- so does what all lines give, one after another
  module _ (lines : List Line) (given : Facts) (are : AreGiven p t lines given) where
    front_hold : (k : ℕ) → ((i : ℕ) (fact : Fact) → i < k → slice_get given i ≡ Some (Some fact) → Means p (about t) fact) → (number : ℕ) → number ≤ k
        → AllHold (take number given)
    front_hold k hold number within zero fact cites = absurd cites
    front_hold k hold number within (suc i) fact cites =
        hold i fact (omega (arith, taken_below number given i (Some fact) cites)) (slice_get-taken number given i (Some fact) cites)

    below_hold : (k i : ℕ) (fact : Fact) → i < k → slice_get given i ≡ Some (Some fact) → Means p (about t) fact
    below_hold zero i fact less there = absurd (omega arith)
    below_hold (suc k) i fact less there =
        let below = slice_get-below given i (Some fact) there in
        let l = slice_get-there lines i (omega (arith, below, are.as_many)) in
        let is = are.each i l.0 l.1 in
        let same : is.fact ≡ Some fact = some_same (sym is.there ∙ there) in
        let gives : Gives p t (take i given) l.0 (Some fact) = subst (λ (x : Option Fact). Gives p t (take i given) l.0 x) same is.gives in
        line_holds (take i given) (front_hold k (below_hold k) i (omega arith)) l.0 fact gives

    pub given_hold : AllHold given
    given_hold zero fact cites = absurd cites
    given_hold (suc i) fact cites = below_hold (i + 1) i fact (omega arith) cites

  -- and the site is answered
  pub certified_answered : (lines : List Line) (o : Site) → IsCertified p t lines o → IsAnswered p (about t) t o
  certified_answered lines o c =
      let hold = given_hold lines c.given c.are_given in
      let held = claim_held p t lines c.given c.field c.call c.are_given c.last in
      let fact = cites_one c.given c.field _ _ held.by_fields c.of_site in
      let same : held.site ≡ o = cc in
      let fields = hold c.field (At Field o Base t) c.of_site in
      let calls : Cites c.given c.call (At Call o held.entry t) = subst (λ (s : Site). Cites c.given c.call (At Call s held.entry t)) same held.by_calls in
      let node = (fields_within p (about t) (Meets p (about t)) o fields).0 in
      (fields, some_string p (about t) well o held.entry t node (hold c.call (At Call o held.entry t) calls))
