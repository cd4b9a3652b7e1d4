-- Rows of the table under new numbers: what a line gives, it gives under the new numbers of the lines that it cites.
use Rattle.std.proofs.Common.{◌≡◌, ◌⊎◌, ℕ, zero, suc, ◌<◌, ◌≤◌, List, [], ◌∷◌, ◌++◌, Option, Some, length, map, slice_get, take, refl, subst, inl, inr, arith}
use Rattle.lists.specs.Lists.{Has}
use Rattle.lists.proofs.Places.{slice_get-append_left, slice_get-below, slice_get-pushed}
use Rattle.link_rules.specs.Linked.{LinkedProgram}
use Rattle.link_sites.specs.declared.place.Place.{Place}
use Rattle.link_sites.specs.declared.site.Site.{Site}
use Rattle.spds_rules.specs.declared.edge.EdgeKind.{EdgeKind}
use Rattle.spds_rules.specs.declared.edge.EdgeKind.TheVariants as edge
use Rattle.spds_rules.specs.declared.node.Node.{Node}
use Rattle.cert_rules.specs.declared.fact.Entry.{Entry}
use Rattle.cert_rules.specs.declared.fact.Fact.{Fact}
use Rattle.cert_rules.specs.declared.fact.Fact.TheVariants.{At, Met}
use Rattle.cert_rules.specs.declared.line.Line.{Line}
use Rattle.cert_rules.specs.declared.line.Line.TheVariants as line
use Rattle.cert_rules.specs.declared.line.Side.{Side}
use Rattle.cert_rules.specs.declared.line.Side.TheVariants.{Field, Call}
use Rattle.cert_rules.specs.Certified.{AreGiven}
use Rattle.spds_rules.specs.Demand.{about}
use Rattle.cert_rules.specs.Given.{Cites, Facts, Gives, IsPut, Leads, Reads, ReadsOn}
use Rattle.cert_rules.specs.Lengths.{CanClaim}
use Rattle.cert_laws.proofs.Givens.{taken_below}
use Rattle.cert_make.specs.Needs.{CiteBack, CitesLine, renumbered}

-- numbers of a list behind another
pub has_right : (xs ys : List ℕ) (number : ℕ) → Has ys number → Has (xs ++ ys) number
has_right [] ys number has = has
has_right (x ∷ xs) ys number has = let h = has_right xs ys number has in (suc h.0, h.1)

module _ (p : LinkedProgram) (t : Node) (old fresh : Facts) (new : ℕ → ℕ) where
  -- what lines with the numbers gave, lines with the new numbers give
  abbrev pub KeepsCited : List ℕ → Type 0
  KeepsCited numbers = (number : ℕ) (fact : Fact) → Has numbers number → Cites old number fact → Cites fresh (new number) fact

  abbrev leads : (side : Side) (from : ℕ) (kind : EdgeKind) (n : Node) (l : Leads p (about t) old side from kind n) → Cites fresh (new from) (At side l.site l.entry l.source)
      → Leads p (about t) fresh side (new from) kind n
  leads side from kind n l cited = record { site = l.site; entry = l.entry; source = l.source; cited = cited; edge = l.edge }

  abbrev is_put : (side : Side) (from meet : ℕ) (n : Node) (s : IsPut p (about t) old side from meet n) → Cites fresh (new from) (At side s.site s.entry s.store.arg)
      → Cites fresh (new meet) (Met s.site s.base s.store) → IsPut p (about t) fresh side (new from) (new meet) n
  is_put side from meet n s cited met = record { site = s.site; entry = s.entry; base = s.base; store = s.store; cited = cited; met = met; start = s.start }

  reads_on : (o : Site) (links : List ℕ) (e : Entry) (method : ℕ) (string : List Place) → KeepsCited links → ReadsOn p old o links e method string
      → ReadsOn p fresh o (map new links) e method string
  reads_on o [] e method string keeps r = r
  reads_on o (link ∷ links) e method [] keeps r = absurd r
  reads_on o (link ∷ links) e method (call ∷ string) keeps r =
      (r.0, r.1, r.2, keeps link _ (zero, refl) r.3, reads_on o links r.1 call.method string (λ number fact has. keeps number fact (suc has.0, has.1)) r.4)

  reads : (o : Site) (numbers : List ℕ) (n : Node) (string : List Place) → KeepsCited numbers → Reads p old o numbers n string → Reads p fresh o (map new numbers) n string
  reads o [] n string keeps r = absurd r
  reads o (first ∷ links) n string keeps r =
      (r.0, keeps first _ (zero, refl) r.1, reads_on o links r.0 n.place.method string (λ number fact has. keeps number fact (suc has.0, has.1)) r.2)

  pub gives_anew : (l : Line) (g : Option Fact) → ((number : ℕ) (fact : Fact) → CitesLine l number → Cites old number fact → Cites fresh (new number) fact)
      → Gives p t old l g → Gives p t fresh (renumbered new l) g
  gives_anew (line.Start side n) g keeps is = is
  gives_anew (line.Jump from n) g keeps is = (leads Call from edge.Jump n is.0 (keeps from _ (zero, refl) is.0.cited), is.1)
  gives_anew (line.Put from meet n) g keeps is = (is_put Call from meet n is.0 (keeps from _ (zero, refl) is.0.cited) (keeps meet _ (suc zero, refl) is.0.met), is.1)
  gives_anew (line.Flow side from n) g keeps is = (is.0, leads side from is.0 n is.1 (keeps from _ (zero, refl) is.1.cited), is.2, is.3)
  gives_anew (line.PushField from meet n) g keeps is = (is_put Field from meet n is.0 (keeps from _ (zero, refl) is.0.cited) (keeps meet _ (suc zero, refl) is.0.met), is.1)
  gives_anew (line.PushCall from n) g keeps is = (is.0, leads Call from (edge.Call is.0) n is.1 (keeps from _ (zero, refl) is.1.cited), is.2)
  gives_anew (line.LinkField from meet n) g keeps is = (is_put Field from meet n is.0 (keeps from _ (zero, refl) is.0.cited) (keeps meet _ (suc zero, refl) is.0.met), is.1)
  gives_anew (line.LinkCall from n) g keeps is = (is.0, leads Call from (edge.Call is.0) n is.1 (keeps from _ (zero, refl) is.1.cited), is.2)
  gives_anew (line.Pop side from link n) g keeps is =
      (is.0, is.1, leads side from is.0 n is.2 (keeps from _ (zero, refl) is.2.cited), is.3, keeps link _ (suc zero, refl) is.4, is.5)
  gives_anew (line.BasePop from n) g keeps is = (is.0, leads Call from (edge.Return is.0) n is.1 (keeps from _ (zero, refl) is.1.cited), is.2, is.3)
  gives_anew (line.Shared first second string) g keeps is =
      let u = is.0 in (
        record {
          object = u.object;
          arg = u.arg;
          base = u.base;
          at = u.at;
          reads_object = reads u.object first u.arg string (λ number fact has. keeps number fact (has.0, slice_get-append_left first second has.0 number has.1)) u.reads_object;
          reads_base = reads u.base second u.at string (λ number fact has. keeps number fact (has_right first second number has)) u.reads_base;
        },
        is.1,
      )
  gives_anew (line.Meet shared base) g keeps is =
      let s = is.0 in (
        record {
          object = s.object;
          base = s.base;
          store = s.store;
          under_one = keeps shared _ (zero, refl) s.under_one;
          as_base = keeps base _ (suc zero, refl) s.as_base;
          store_in = s.store_in;
          has = s.has;
        },
        is.1,
      )
  gives_anew (line.Claim field call) g keeps is =
      let h = is.0 in (
        record { site = h.site; entry = h.entry; by_fields = keeps field _ (zero, refl) h.by_fields; by_calls = keeps call _ (suc zero, refl) h.by_calls },
        is.1,
      )

-- a property of one number, and of two
in_one : (P : ℕ → Type 0) (a : ℕ) → P a → (i number : ℕ) → slice_get (a ∷ []) i ≡ Some number → P number
in_one P a h zero number there = let same : a ≡ number = cc in subst P same h
in_one P a h (suc i) number there = cc

pub in_two : (P : ℕ → Type 0) (a b : ℕ) → P a → P b → (i number : ℕ) → slice_get (a ∷ b ∷ []) i ≡ Some number → P number
in_two P a b h k zero number there = let same : a ≡ number = cc in subst P same h
in_two P a b h k (suc i) number there = in_one P b k i number there

-- a number of two lists is one of either
pub has_or : (xs ys : List ℕ) (i number : ℕ) → slice_get (xs ++ ys) i ≡ Some number → Has xs number ⊎ Has ys number
has_or [] ys i number there = inr (i, there)
has_or (x ∷ xs) ys zero number there = inl (zero, there)
has_or (x ∷ xs) ys (suc i) number there = elim (has_or xs ys i number there) [ inl a ↦ inl (suc a.0, a.1) | inr b ↦ inr b ]

module _ (p : LinkedProgram) (t : Node) (given : Facts) where
  -- the line with the number gave a fact
  abbrev IsCited : ℕ → Type 0
  IsCited number = (fact : Fact) × Cites given number fact

  reads_on_cited : (o : Site) (links : List ℕ) (e : Entry) (method : ℕ) (string : List Place) → ReadsOn p given o links e method string → (i number : ℕ)
      → slice_get links i ≡ Some number → IsCited number
  reads_on_cited o [] e method string r i number there = cc
  reads_on_cited o (link ∷ links) e method [] r i number there = absurd r
  reads_on_cited o (link ∷ links) e method (call ∷ string) r zero number there = let same : link ≡ number = cc in subst IsCited same (_, r.3)
  reads_on_cited o (link ∷ links) e method (call ∷ string) r (suc i) number there = reads_on_cited o links r.1 call.method string r.4 i number there

  reads_cited : (o : Site) (numbers : List ℕ) (n : Node) (string : List Place) → Reads p given o numbers n string → (i number : ℕ) → slice_get numbers i ≡ Some number → IsCited number
  reads_cited o [] n string r i number there = absurd r
  reads_cited o (first ∷ links) n string r zero number there = let same : first ≡ number = cc in subst IsCited same (_, r.1)
  reads_cited o (first ∷ links) n string r (suc i) number there = reads_on_cited o links r.0 n.place.method string r.2 i number there

  -- a line that gives something cites lines that gave facts
  gives_cited : (l : Line) (g : Option Fact) → Gives p t given l g → (number : ℕ) → CitesLine l number → IsCited number
  gives_cited (line.Start side n) g is number cites = let e = cites.1 in cc
  gives_cited (line.Jump from n) g is number cites = in_one IsCited from (_, is.0.cited) cites.0 number cites.1
  gives_cited (line.Put from meet n) g is number cites = in_two IsCited from meet (_, is.0.cited) (_, is.0.met) cites.0 number cites.1
  gives_cited (line.Flow side from n) g is number cites = in_one IsCited from (_, is.1.cited) cites.0 number cites.1
  gives_cited (line.PushField from meet n) g is number cites = in_two IsCited from meet (_, is.0.cited) (_, is.0.met) cites.0 number cites.1
  gives_cited (line.PushCall from n) g is number cites = in_one IsCited from (_, is.1.cited) cites.0 number cites.1
  gives_cited (line.LinkField from meet n) g is number cites = in_two IsCited from meet (_, is.0.cited) (_, is.0.met) cites.0 number cites.1
  gives_cited (line.LinkCall from n) g is number cites = in_one IsCited from (_, is.1.cited) cites.0 number cites.1
  gives_cited (line.Pop side from link n) g is number cites = in_two IsCited from link (_, is.2.cited) (_, is.4) cites.0 number cites.1
  gives_cited (line.BasePop from n) g is number cites = in_one IsCited from (_, is.1.cited) cites.0 number cites.1
  gives_cited (line.Shared first second string) g is number cites =
      let u = is.0 in
      elim (has_or first second cites.0 number cites.1) [
        | inl a ↦ reads_cited u.object first u.arg string u.reads_object a.0 number a.1
        | inr b ↦ reads_cited u.base second u.at string u.reads_base b.0 number b.1
      ]
  gives_cited (line.Meet shared base) g is number cites = in_two IsCited shared base (_, is.0.under_one) (_, is.0.as_base) cites.0 number cites.1
  gives_cited (line.Claim field call) g is number cites = in_two IsCited field call (_, is.0.by_fields) (_, is.0.by_calls) cites.0 number cites.1

-- a number that is cited is that of a line
cited_within : (given : Facts) (number : ℕ) (fact : Fact) → Cites given number fact → (0 < number) × (number ≤ length given)
cited_within given zero fact cites = absurd cites
cited_within given (suc i) fact cites = (omega arith, omega (arith, slice_get-below given i (Some fact) cites))

cited_before : (given : Facts) (i number : ℕ) (fact : Fact) → Cites (take i given) number fact → (0 < number) × (number ≤ i)
cited_before given i zero fact cites = absurd cites
cited_before given i (suc k) fact cites = (omega arith, omega (arith, taken_below i given k (Some fact) cites))

module _ (p : LinkedProgram) (t : Node) where
  -- lines that give something, one after another, cite only lines before them
  given_back : (lines : List Line) (given : Facts) → AreGiven p t lines given → CiteBack lines
  given_back lines given are i l number there cites =
      let is = are.each i l there in
      let c = gives_cited p t (take i given) l is.fact is.gives number cites in
      cited_before given i number c.0 c.1

  -- and so does a claim behind them
  pub can_cite_back : (lines : List Line) (o : Site) (field call : ℕ) → CanClaim p t lines o field call → CiteBack (lines ++ line.Claim field call ∷ [])
  can_cite_back lines o field call can i l number there cites = elim (slice_get-pushed lines (line.Claim field call) i l there) [
    | inl before ↦ given_back lines can.given can.are_given i l number before cites
    | inr last ↦
        let claims : CitesLine (line.Claim field call) number = subst (λ (x : Line). CitesLine x number) last.1 cites in
        let held = in_two (IsCited p t can.given) field call (_, can.by_fields) (_, can.by_calls) claims.0 number claims.1 in
        let within = cited_within can.given number held.0 held.1 in
        (within.0, omega (arith, within.1, can.are_given.as_many, last.0))
  ]
