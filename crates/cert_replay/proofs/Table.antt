-- The rows of the table of certificates, each step after step as it is looked up.
use Rattle.std.proofs.Common.{◌≡◌, ◌↔◌, ℕ, List, Some, refl, sym, ap, subst, ◌∙◌}
use Rattle.link_rules.specs.Linked.{LinkedProgram}
use Rattle.link_sites.specs.declared.place.Place.{Place}
use Rattle.link_sites.specs.declared.site.Site.{Site}
use Rattle.link_sites.specs.Sites.{HasField}
use Rattle.spds_rules.specs.declared.edge.EdgeKind.{EdgeKind}
use Rattle.spds_rules.specs.declared.edge.EdgeKind.TheVariants as edge
use Rattle.spds_rules.specs.declared.node.Node.{Node}
use Rattle.spds_rules.specs.declared.store.StoreAt.{StoreAt}
use Rattle.spds_rules.specs.Demand.{EdgeIn, StartIn, StoreIn, about}
use Rattle.cert_rules.specs.declared.fact.Entry.{Entry}
use Rattle.cert_rules.specs.declared.fact.Entry.TheVariants as entry
use Rattle.cert_rules.specs.declared.fact.Entry.TheVariants.{Base}
use Rattle.cert_rules.specs.declared.fact.Fact.{Fact}
use Rattle.cert_rules.specs.declared.fact.Fact.TheVariants.{At, Link, Shared, Met}
use Rattle.cert_rules.specs.declared.line.Line.TheVariants as line
use Rattle.cert_rules.specs.declared.line.Side.{Side}
use Rattle.cert_rules.specs.declared.line.Side.TheVariants.{Field, Call}
use Rattle.cert_rules.specs.Given.{Cites, Facts, Gives, Keeps, Reads, Takes}
use Rattle.cert_replay.specs.declared.cited.Held.{Held}
use Rattle.cert_replay.specs.declared.cited.Pair.{Pair}
use Rattle.cert_replay.specs.declared.cited.Stored.{Stored}
use Rattle.cert_replay.specs.declared.rows.Inserted.{Inserted}
use Rattle.cert_replay.specs.Cited.{IsHeldBy, IsPairBy, IsStoredBy}
use Rattle.cert_text.proofs.NodeWords.{some_one}
use Rattle.cert_replay.proofs.From.{From, Where}

-- an edge of a call leads from the call
pub from_call : (p : LinkedProgram) (t m n : Node) (call : Place) → EdgeIn p (about t) m (edge.Call call) n → m.place ≡ call
from_call p t m n call e = e.0.row.from

module _ (p : LinkedProgram) (t : Node) (given : Facts) where
  pub start_row : (side : Side) (n : Node) (f : Fact)
      → From (λ (o : Site). StartIn p (about t) o n) (λ o f. f ≡ At side o Base n) f ↔ Gives p t given (line.Start side n) (Some f)
  start_row side n f = ((λ v. (v.by, v.is, ap Some v.so)), λ g. record { by = g.0; is = g.1; so = some_one _ _ g.2 })

  pub jump_row : (from : ℕ) (n : Node) (f : Fact)
      → From (IsHeldBy given Call from) (λ h. Where (EdgeIn p (about t) h.node edge.Jump n) (At Call h.site Base n)) f ↔ Gives p t given (line.Jump from n) (Some f)
  jump_row from n f = (
    (λ v. (record { site = v.by.site; entry = v.by.entry; source = v.by.node; cited = v.is; edge = v.so.0 }, ap Some v.so.1)),
    λ g. record { by = record { site = g.0.site; entry = g.0.entry; node = g.0.source }; is = g.0.cited; so = (g.0.edge, some_one _ _ g.1) },
  )

  pub flow_row : (side : Side) (from : ℕ) (n : Node) (f : Fact)
      → From (IsHeldBy given side from) (λ h. Where ((kind : EdgeKind) × Keeps side kind × EdgeIn p (about t) h.node kind n) (At side h.site h.entry n)) f
      ↔ Gives p t given (line.Flow side from n) (Some f)
  flow_row side from n f = (
    (λ v. (v.so.0.0, record { site = v.by.site; entry = v.by.entry; source = v.by.node; cited = v.is; edge = v.so.0.2 }, v.so.0.1, ap Some v.so.1)),
    λ g. record { by = record { site = g.1.site; entry = g.1.entry; node = g.1.source }; is = g.1.cited; so = ((g.0, g.2, g.1.edge), some_one _ _ g.3) },
  )

  pub push_call_row : (from : ℕ) (n : Node) (f : Fact)
      → From (IsHeldBy given Call from) (λ h. Where (EdgeIn p (about t) h.node (edge.Call h.node.place) n) (At Call h.site (entry.Call n h.node.place) n)) f
      ↔ Gives p t given (line.PushCall from n) (Some f)
  push_call_row from n f = (
    (λ v. (v.by.node.place, record { site = v.by.site; entry = v.by.entry; source = v.by.node; cited = v.is; edge = v.so.0 }, ap Some v.so.1)),
    λ g.
        let e = from_call p t g.1.source n g.0 g.1.edge in
        record {
          by = record { site = g.1.site; entry = g.1.entry; node = g.1.source };
          is = g.1.cited;
          so = (
            subst (λ (c : Place). EdgeIn p (about t) g.1.source (edge.Call c) n) (sym e) g.1.edge,
            some_one _ _ g.2 ∙ ap (λ (c : Place). At Call g.1.site (entry.Call n c) n) (sym e),
          );
        },
  )

  pub link_call_row : (from : ℕ) (n : Node) (f : Fact)
      → From (IsHeldBy given Call from) (λ h. Where (EdgeIn p (about t) h.node (edge.Call h.node.place) n) (Link Call h.site (entry.Call n h.node.place) h.entry)) f
      ↔ Gives p t given (line.LinkCall from n) (Some f)
  link_call_row from n f = (
    (λ v. (v.by.node.place, record { site = v.by.site; entry = v.by.entry; source = v.by.node; cited = v.is; edge = v.so.0 }, ap Some v.so.1)),
    λ g.
        let e = from_call p t g.1.source n g.0 g.1.edge in
        record {
          by = record { site = g.1.site; entry = g.1.entry; node = g.1.source };
          is = g.1.cited;
          so = (
            subst (λ (c : Place). EdgeIn p (about t) g.1.source (edge.Call c) n) (sym e) g.1.edge,
            some_one _ _ g.2 ∙ ap (λ (c : Place). Link Call g.1.site (entry.Call n c) g.1.entry) (sym e),
          );
        },
  )

  pub base_pop_row : (from : ℕ) (n : Node) (f : Fact)
      → From (IsHeldBy given Call from) (λ h. Where ((h.entry ≡ Base) × ((call : Place) × EdgeIn p (about t) h.node (edge.Return call) n)) (At Call h.site Base n)) f
      ↔ Gives p t given (line.BasePop from n) (Some f)
  base_pop_row from n f = (
    (λ v. (v.so.0.1.0, record { site = v.by.site; entry = v.by.entry; source = v.by.node; cited = v.is; edge = v.so.0.1.1 }, v.so.0.0, ap Some v.so.1)),
    λ g. record { by = record { site = g.1.site; entry = g.1.entry; node = g.1.source }; is = g.1.cited; so = ((g.2, (g.0, g.1.edge)), some_one _ _ g.3) },
  )

  -- a pop: where the object was, the kind that takes the letter off, what stands below it, and an edge
  abbrev pub PopsBelow : Side → Node → Held → EdgeKind → Entry → Fact → Type 0
  PopsBelow side n h kind e = Where (EdgeIn p (about t) h.node kind n) (At side h.site e n)

  abbrev pub PopsAlong : Side → ℕ → Node → Held → EdgeKind → Fact → Type 0
  PopsAlong side link n h kind = From (λ (e : Entry). Cites given link (Link side h.site h.entry e)) (PopsBelow side n h kind)

  abbrev pub PopsFrom : Side → ℕ → Node → Held → Fact → Type 0
  PopsFrom side link n h = From (λ (kind : EdgeKind). Takes side h.entry kind) (PopsAlong side link n h)

  pub pop_row : (side : Side) (from link : ℕ) (n : Node) (f : Fact)
      → From (IsHeldBy given side from) (PopsFrom side link n) f ↔ Gives p t given (line.Pop side from link n) (Some f)
  pop_row side from link n f = (
    (λ v. (
      v.so.by,
      v.so.so.by,
      record { site = v.by.site; entry = v.by.entry; source = v.by.node; cited = v.is; edge = v.so.so.so.0 },
      v.so.is,
      v.so.so.is,
      ap Some v.so.so.so.1,
    )),
    λ g. record {
      by = record { site = g.2.site; entry = g.2.entry; node = g.2.source };
      is = g.2.cited;
      so = record { by = g.0; is = g.3; so = record { by = g.1; is = g.4; so = (g.2.edge, some_one _ _ g.5) } };
    },
  )

  -- what a store puts into an object that starts at the node
  abbrev pub PutsAs : Side → ℕ → ℕ → Node → Inserted → Type 0
  PutsAs side from meet n s =
      Cites given from (At side s.site s.entry s.store.arg) × Cites given meet (Met s.site s.base s.store) × StartIn p (about t) s.base n

  pub put_row : (from meet : ℕ) (n : Node) (f : Fact) → From (PutsAs Call from meet n) (λ s f. f ≡ At Call s.site Base n) f ↔ Gives p t given (line.Put from meet n) (Some f)
  put_row from meet n f = (
    (λ v. (record { site = v.by.site; entry = v.by.entry; base = v.by.base; store = v.by.store; cited = v.is.0; met = v.is.1; start = v.is.2 }, ap Some v.so)),
    λ g. record { by = record { site = g.0.site; entry = g.0.entry; base = g.0.base; store = g.0.store }; is = (g.0.cited, g.0.met, g.0.start); so = some_one _ _ g.1 },
  )

  pub push_field_row : (from meet : ℕ) (n : Node) (f : Fact)
      → From (PutsAs Field from meet n) (λ s f. f ≡ At Field s.site (entry.Field n s.store.field) n) f ↔ Gives p t given (line.PushField from meet n) (Some f)
  push_field_row from meet n f = (
    (λ v. (record { site = v.by.site; entry = v.by.entry; base = v.by.base; store = v.by.store; cited = v.is.0; met = v.is.1; start = v.is.2 }, ap Some v.so)),
    λ g. record { by = record { site = g.0.site; entry = g.0.entry; base = g.0.base; store = g.0.store }; is = (g.0.cited, g.0.met, g.0.start); so = some_one _ _ g.1 },
  )

  pub link_field_row : (from meet : ℕ) (n : Node) (f : Fact)
      → From (PutsAs Field from meet n) (λ s f. f ≡ Link Field s.site (entry.Field n s.store.field) s.entry) f ↔ Gives p t given (line.LinkField from meet n) (Some f)
  link_field_row from meet n f = (
    (λ v. (record { site = v.by.site; entry = v.by.entry; base = v.by.base; store = v.by.store; cited = v.is.0; met = v.is.1; start = v.is.2 }, ap Some v.so)),
    λ g. record { by = record { site = g.0.site; entry = g.0.entry; base = g.0.base; store = g.0.store }; is = (g.0.cited, g.0.met, g.0.start); so = some_one _ _ g.1 },
  )

  -- how it is looked up: what is stored into what, the entry with which that is there, and the site that starts at the node
  abbrev pub PutsStarted : Stored → Entry → Site → Inserted → Type 0
  PutsStarted s e o = Where (o ≡ s.base) (record { site = s.object; entry = e; base = s.base; store = s.store })

  abbrev pub PutsHeld : Node → Stored → Entry → Inserted → Type 0
  PutsHeld n s e = From (λ (o : Site). StartIn p (about t) o n) (PutsStarted s e)

  abbrev pub PutsStored : Side → ℕ → Node → Stored → Inserted → Type 0
  PutsStored side from n s = From (λ (e : Entry). Cites given from (At side s.object e s.store.arg)) (PutsHeld n s)

  pub put_into_row : (side : Side) (from meet : ℕ) (n : Node) (s : Inserted) → From (IsStoredBy given meet) (PutsStored side from n) s ↔ PutsAs side from meet n s
  put_into_row side from meet n s = (
    (λ v.
        let m = v.by in
        let e = v.so.by in
        let into : PutsAs side from meet n (record { site = m.object; entry = e; base = m.base; store = m.store }) =
        (v.so.is, v.is, subst (λ (x : Site). StartIn p (about t) x n) v.so.so.so.0 v.so.so.is) in
        subst (PutsAs side from meet n) (sym v.so.so.so.1) into),
    λ is. record {
      by = record { object = s.site; base = s.base; store = s.store };
      is = is.1;
      so = record { by = s.entry; is = is.0; so = record { by = s.base; is = is.2; so = (refl, refl) } };
    },
  )

  -- a shared string: read for the one, and for the other
  abbrev pub SharesWith : List ℕ → List Place → Site × Node → Site × Node → Fact → Type 0
  SharesWith second string a b f = f ≡ Shared a.0 a.1 b.0 b.1

  abbrev pub SharesFrom : List ℕ → List Place → Site × Node → Fact → Type 0
  SharesFrom second string a = From (λ (b : Site × Node). Reads p given b.0 second b.1 string) (SharesWith second string a)

  pub shared_row : (first second : List ℕ) (string : List Place) (f : Fact)
      → From (λ (a : Site × Node). Reads p given a.0 first a.1 string) (SharesFrom second string) f ↔ Gives p t given (line.Shared first second string) (Some f)
  shared_row first second string f = (
    (λ v. (
      record { object = v.by.0; arg = v.by.1; base = v.so.by.0; at = v.so.by.1; reads_object = v.is; reads_base = v.so.is },
      ap Some v.so.so,
    )),
    λ g. record { by = (g.0.object, g.0.arg); is = g.0.reads_object; so = record { by = (g.0.base, g.0.at); is = g.0.reads_base; so = some_one _ _ g.1 } },
  )

  -- a meet: the pair, the store between its nodes, and the entry with which the base is there
  abbrev pub MeetsHeld : Pair → StoreAt → Entry → Fact → Type 0
  MeetsHeld s store e = Where ((e ≡ Base) × HasField p s.base store.field) (Met s.object s.base store)

  abbrev pub MeetsBy : ℕ → Pair → StoreAt → Fact → Type 0
  MeetsBy is_base s store = From (λ (e : Entry). Cites given is_base (At Field s.base e s.at)) (MeetsHeld s store)

  abbrev pub MeetsPair : ℕ → Pair → Fact → Type 0
  MeetsPair is_base s = From (λ (store : StoreAt). StoreIn p (about t) store × (store.arg ≡ s.arg) × (store.base ≡ s.at)) (MeetsBy is_base s)

  pub meet_row : (shared is_base : ℕ) (f : Fact) → From (IsPairBy given shared) (MeetsPair is_base) f ↔ Gives p t given (line.Meet shared is_base) (Some f)
  meet_row shared is_base f = (
    (λ v.
        let s = v.by in
        let store = v.so.by in
        let there = v.so.is in
        let test = v.so.so.so.0 in
        let itself : Cites given is_base (At Field s.base Base store.base) =
        subst (λ (e : Entry). Cites given is_base (At Field s.base e store.base)) test.0
        (subst (λ (x : Node). Cites given is_base (At Field s.base v.so.so.by x)) (sym there.2) v.so.so.is) in
        let under : Cites given shared (Shared s.object store.arg s.base store.base) =
        subst (λ (x : Node). Cites given shared (Shared s.object x s.base store.base)) (sym there.1)
        (subst (λ (x : Node). Cites given shared (Shared s.object s.arg s.base x)) (sym there.2) v.is) in (
          record { object = s.object; base = s.base; store = store; under_one = under; as_base = itself; store_in = there.0; has = test.1 },
          ap Some v.so.so.so.1,
        )),
    λ g. record {
      by = record { object = g.0.object; arg = g.0.store.arg; base = g.0.base; at = g.0.store.base };
      is = g.0.under_one;
      so = record {
        by = g.0.store;
        is = (g.0.store_in, refl, refl);
        so = record { by = Base; is = g.0.as_base; so = ((refl, g.0.has), some_one _ _ g.1) };
      };
    },
  )
