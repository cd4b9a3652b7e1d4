-- Lines that are put behind none: no two of them are the same, and each is well read.
use Rattle.std.proofs.Common.{◌≡◌, inl, inr, ℕ, zero, suc, ◌+◌, List, [], ◌∷◌, Option, Some, length, slice_get, refl, sym, ap, subst, arith}
use Rattle.std.proofs.lemmas.Option.{get_or_from_slice_get}
use Rattle.lists.specs.Lists.{Has, IsApart}
use Rattle.lists.proofs.Places.{IsApart-push, slice_get-push, slice_get-pushed}
use Rattle.link_rules.specs.Linked.{LinkedProgram}
use Rattle.link_sites.specs.declared.place.Place.{Place}
use Rattle.link_sites.specs.declared.site.Site.{Site}
use Rattle.spds_rules.specs.declared.edge.EdgeKind.{EdgeKind}
use Rattle.spds_rules.specs.declared.node.Node.{Node}
use Rattle.cert_rules.specs.declared.fact.Entry.{Entry}
use Rattle.cert_rules.specs.declared.fact.Fact.{Fact}
use Rattle.cert_rules.specs.declared.fact.Fact.TheVariants.{Link}
use Rattle.cert_rules.specs.declared.line.Line.{Line}
use Rattle.cert_rules.specs.declared.line.Line.TheVariants as line
use Rattle.cert_rules.specs.declared.line.Side.{Side}
use Rattle.cert_rules.specs.declared.line.Side.TheVariants.{Field, Call}
use Rattle.spds_rules.specs.Demand.{about}
use Rattle.cert_rules.specs.Given.{Cites, Facts, Gives, IsPut, Leads, Reads, ReadsOn}
use Rattle.cert_laws.proofs.OneFact.{gives_one}
use Rattle.cert_laws.proofs.Sound.{some_same}
use Rattle.cert_laws.proofs.Writing.{Keeps_cited}
use Rattle.cert_lines.specs.Noted.{IsThere, Noted, length_at, with_line}
use Rattle.cert_rules.specs.Told.{as_told}
use Rattle.cert_work.specs.Added.{AreAdded, length_told}
use Rattle.cert_work.proofs.Growing.{cited_kept, cites_kept, there_more}
use Rattle.cert_trace.specs.Fitting.{IsWellRead}
use Rattle.cert_trace.specs.Resting.{no_lines}
use Rattle.cert_trace.proofs.Unraised.{AreAllUnraised, AreCallsUnraised, gives_unraised, gives_well_read}

-- what a line gives it gives over more, where what was cited still is
module _ (p : LinkedProgram) (t : Node) (old new : Facts) (keeps : Keeps_cited old new) where
  leads : (side : Side) (from : ℕ) (kind : EdgeKind) (n : Node) → Leads p (about t) old side from kind n → Leads p (about t) new side from kind n
  leads side from kind n l = record { site = l.site; entry = l.entry; source = l.source; cited = keeps from _ l.cited; edge = l.edge }

  is_put : (side : Side) (from meet : ℕ) (n : Node) → IsPut p (about t) old side from meet n → IsPut p (about t) new side from meet n
  is_put side from meet n s =
      record { site = s.site; entry = s.entry; base = s.base; store = s.store; cited = keeps from _ s.cited; met = keeps meet _ s.met; start = s.start }

  reads_on : (o : Site) (links : List ℕ) (e : Entry) (method : ℕ) (string : List Place) → ReadsOn p old o links e method string → ReadsOn p new o links e method string
  reads_on o [] e method string r = r
  reads_on o (link ∷ links) e method [] r = r
  reads_on o (link ∷ links) e method (call ∷ string) r = (r.0, r.1, r.2, keeps link (Link Call o e r.1) r.3, reads_on o links r.1 call.method string r.4)

  reads : (o : Site) (numbers : List ℕ) (n : Node) (string : List Place) → Reads p old o numbers n string → Reads p new o numbers n string
  reads o [] n string r = r
  reads o (first ∷ links) n string r = (r.0, keeps first _ r.1, reads_on o links r.0 n.place.method string r.2)

  gives_more : (l : Line) (g : Option Fact) → Gives p t old l g → Gives p t new l g
  unfolding leads is_put
  gives_more (line.Start side n) g is = is
  gives_more (line.Jump from n) g is = (leads Call from _ n is.0, is.1)
  gives_more (line.Put from meet n) g is = (is_put Call from meet n is.0, is.1)
  gives_more (line.Flow side from n) g is = (is.0, leads side from is.0 n is.1, is.2, is.3)
  gives_more (line.PushField from meet n) g is = (is_put Field from meet n is.0, is.1)
  gives_more (line.PushCall from n) g is = (is.0, leads Call from _ n is.1, is.2)
  gives_more (line.LinkField from meet n) g is = (is_put Field from meet n is.0, is.1)
  gives_more (line.LinkCall from n) g is = (is.0, leads Call from _ n is.1, is.2)
  gives_more (line.Pop side from link n) g is = (is.0, is.1, leads side from is.0 n is.2, is.3, keeps link _ is.4, is.5)
  gives_more (line.BasePop from n) g is = (is.0, leads Call from _ n is.1, is.2, is.3)
  gives_more (line.Shared first second string) g is =
      let u = is.0 in (
        record {
          object = u.object;
          arg = u.arg;
          base = u.base;
          at = u.at;
          reads_object = reads u.object first u.arg string u.reads_object;
          reads_base = reads u.base second u.at string u.reads_base;
        },
        is.1,
      )
  gives_more (line.Meet shared base) g is =
      let s = is.0 in (
        record {
          object = s.object;
          base = s.base;
          store = s.store;
          under_one = keeps shared _ s.under_one;
          as_base = keeps base _ s.as_base;
          store_in = s.store_in;
          has = s.has;
        },
        is.1,
      )
  gives_more (line.Claim field call) g is =
      let h = is.0 in
      (record { site = h.site; entry = h.entry; by_fields = keeps field _ h.by_fields; by_calls = keeps call _ h.by_calls }, is.1)

module _ (p : LinkedProgram) (t : Node) where
  -- and it is as long
  long_more : {old new : Noted} → AreAdded p t old new → (l : Line) (g : Option Fact) → Gives p t old.given l g → length_told new l ≡ length_told old l
  long_more added (line.Flow Field from n) g is = ap (λ (k : ℕ). as_told (k + 1)) (cited_kept p t added from _ is.1.cited)
  long_more added (line.LinkField from meet n) g is = ap (λ (k : ℕ). as_told (k + 1)) (cited_kept p t added from _ is.0.cited)
  long_more added (line.Pop Field from link n) g is =
      let a = cited_kept p t added from _ is.2.cited in let b = cited_kept p t added link _ is.4 in λ j. as_told (a j + b j + 1)
  long_more added (line.Start side n) g is = refl
  long_more added (line.Jump from n) g is = refl
  long_more added (line.Put from meet n) g is = refl
  long_more added (line.Flow Call from n) g is = refl
  long_more added (line.PushField from meet n) g is = refl
  long_more added (line.PushCall from n) g is = refl
  long_more added (line.LinkCall from n) g is = refl
  long_more added (line.Pop Call from link n) g is = refl
  long_more added (line.BasePop from n) g is = refl
  long_more added (line.Shared first second string) g is = refl
  long_more added (line.Meet shared base) g is = refl
  long_more added (line.Claim field call) g is = refl

  -- the line gives a fact over all that is given, and the fact is there, no longer than the line
  record IsSettled (w : Noted) (l : Line) : Type 0 where
    fact : Fact
    gives : Gives p t w.given l (Some fact)
    there : IsThere w fact (length_told w l)

  record AreSettled (w : Noted) : Type 0 where
    each : (l : Line) → Has w.lines l → IsSettled w l
    apart : IsApart w.lines
    unraised : AreAllUnraised w.given

  settled_more : {old new : Noted} → AreAdded p t old new → (l : Line) → IsSettled old l → IsSettled new l
  settled_more {old} {new} added l s = record {
    fact = s.fact;
    gives = gives_more p t old.given new.given (cites_kept p t added) l (Some s.fact) s.gives;
    there = subst (IsThere new s.fact) (sym (long_more added l (Some s.fact) s.gives)) (there_more p t added s.fact _ s.there);
  }

  none_settled : AreSettled no_lines
  none_settled = record {
    each = λ l has. let h = has.1 in cc;
    apart = λ i j l a b. cc;
    unraised = λ number fact cites. none number fact cites;
  }
    where
      none : (number : ℕ) (fact : Fact) → Cites [] number fact → AreCallsUnraised fact
      none zero fact cites = absurd cites
      none (suc number) fact cites = cc

  module _ (w : Noted) (s : AreSettled w) (l : Line) (fact : Fact) (gives : Gives p t w.given l (Some fact)) (not : IsThere w fact (length_told w l) → ⊥) where
    -- an equal line before it gives the same fact, no longer
    not_before : Has w.lines l → ⊥
    not_before has =
        let is = s.each l has in
        let same : is.fact ≡ fact = some_same (gives_one p t w.given l (Some is.fact) (Some fact) is.gives gives) in
        not (subst (λ (f : Fact). IsThere w f (length_told w l)) same is.there)

    abbrev next : Noted
    next = with_line w l fact (length_told w l)

    unraised_next : AreAllUnraised next.given
    unraised_next zero f cites = absurd cites
    unraised_next (suc i) f cites = elim (slice_get-pushed w.given (Some fact) i (Some f) cites) [
      | inl before ↦ s.unraised (suc i) f before
      | inr e ↦ (let same : fact ≡ f = sym (some_same e.1) in subst AreCallsUnraised same (gives_unraised p t w.given s.unraised l fact gives))
    ]

    settled_next : length w.lengths ≡ length w.given → AreSettled next
    settled_next even = record { each = each; apart = IsApart-push w.lines l s.apart not_before; unraised = unraised_next }
      where
        added : AreAdded p t w next
        added = AreAdded.more l fact AreAdded.none even gives not

        long : length_at next (length w.given) ≡ length_told w l
        long =
            get_or_from_slice_get next.lengths (length w.given) (length_told w l) 0
            (subst (λ (n : ℕ). slice_get next.lengths n ≡ Some (length_told w l)) even (slice_get-push w.lengths (length_told w l)))

        here : IsSettled next l
        here = record {
          fact = fact;
          gives = gives_more p t w.given next.given (cites_kept p t added) l (Some fact) gives;
          there = record { at = length w.given; gives = slice_get-push w.given (Some fact); short = omega (arith, long, long_more added l (Some fact) gives) };
        }

        each : (k : Line) → Has next.lines k → IsSettled next k
        each k has = elim (slice_get-pushed w.lines l has.0 k has.1) [
          | inl before ↦ settled_more added k (s.each k (has.0, before))
          | inr e ↦ subst (IsSettled next) (sym e.1) here
        ]

  added_settled : {old new : Noted} → AreAdded p t old new → AreSettled old → AreSettled new
  added_settled AreAdded.none s = s
  added_settled (AreAdded.more {mid} l fact rest even gives not) s = settled_next mid (added_settled rest s) l fact gives not even

  module _ {new : Noted} (added : AreAdded p t no_lines new) where
    pub added_apart : IsApart new.lines
    added_apart = (added_settled added none_settled).apart

    pub added_well_read : (l : Line) → Has new.lines l → IsWellRead l
    added_well_read l has =
        let s = added_settled added none_settled in let is = s.each l has in gives_well_read p t new.given s.unraised l is.fact is.gives
