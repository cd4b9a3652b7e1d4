-- What is answered is certified.
use Rattle.std.proofs.Common.{◌≡◌, ℕ, zero, suc, List, [], ◌∷◌, ◌++◌, Some, None, refl, sym, ap, subst, ◌∙◌, inl, inr}
use Rattle.link_rules.specs.Linked.{LinkedProgram}
use Rattle.link_sites.specs.declared.place.Place.{Place}
use Rattle.link_sites.specs.declared.site.Site.{Site}
use Rattle.spds_rules.specs.declared.edge.EdgeKind.{EdgeKind}
use Rattle.spds_rules.specs.declared.edge.EdgeKind.TheVariants as edge
use Rattle.spds_rules.specs.declared.node.Node.{Node}
use Rattle.spds_rules.specs.declared.store.StoreAt.{StoreAt}
use Rattle.spds_rules.specs.Answers.{IsAnswered}
use Rattle.spds_rules.specs.Demand.{EdgeIn, StartIn, about}
use Rattle.spds_rules.specs.Systems.{InCalls, InFields, IsString, MayStore, Meets, MetAfter}
use Rattle.spds_laws.proofs.Crossings.{keep_stays, return_leads}
use Rattle.spds_laws.proofs.Strings.{string_called}
use Rattle.cert_rules.specs.declared.fact.Entry.{Entry}
use Rattle.cert_rules.specs.declared.fact.Entry.TheVariants as entry
use Rattle.cert_rules.specs.declared.fact.Entry.TheVariants.{Base}
use Rattle.cert_rules.specs.declared.fact.Fact.{Fact}
use Rattle.cert_rules.specs.declared.fact.Fact.TheVariants.{At, Link, Shared, Met}
use Rattle.cert_rules.specs.declared.line.Line.{Line}
use Rattle.cert_rules.specs.declared.line.Line.TheVariants as line
use Rattle.cert_rules.specs.declared.line.Side.{Side}
use Rattle.cert_rules.specs.declared.line.Side.TheVariants.{Field, Call}
use Rattle.cert_rules.specs.Given.{Cites, Facts, Gives, Keeps, Reads, ReadsOn}
use Rattle.cert_laws.specs.Shown.{IsShown}
use Rattle.cert_laws.proofs.Givens.{given_more}
use Rattle.cert_laws.proofs.Writing.{IsThere, Keeps_cited, Writes, cites_push, nothing_written, there_lasts, write_as, write_both, write_line, write_none}

-- strings that are read are read of more facts too
pub reads_on_lasts : (p : LinkedProgram) (o : Site) (old new : Facts) → Keeps_cited old new → (links : List ℕ) (e : Entry) (method : ℕ) (string : List Place)
    → ReadsOn p old o links e method string → ReadsOn p new o links e method string
reads_on_lasts p o old new keeps [] e method string r = r
reads_on_lasts p o old new keeps (link ∷ links) e method [] r = r
reads_on_lasts p o old new keeps (link ∷ links) e method (call ∷ string) r =
    (r.0, r.1, r.2, keeps link (Link Call o e r.1) r.3, reads_on_lasts p o old new keeps links r.1 call.method string r.4)

pub reads_lasts : (p : LinkedProgram) (o : Site) (numbers : List ℕ) (n : Node) (string : List Place) → (old new : Facts) → Keeps_cited old new
    → Reads p old o numbers n string → Reads p new o numbers n string
reads_lasts p o [] n string old new keeps r = r
reads_lasts p o (first ∷ links) n string old new keeps r = (r.0, keeps first (At Call o r.0 n) r.1, reads_on_lasts p o old new keeps links r.0 n.place.method string r.2)

module _ (p : LinkedProgram) (t : Node) where
  -- facts that can be written
  abbrev pub CanWrite : Fact → Type 0
  CanWrite fact = Writes p t (IsThere fact)

  -- from one fact, or from two
  from_one : (a fact : Fact) → CanWrite a → ((given : Facts) (i : ℕ) → Cites given i a → (l : Line) × Gives p t given l (Some fact)) → CanWrite fact
  from_one a fact writes next = write_line p t (IsThere a) fact (λ given is. next given is.0 is.1) writes

  from_two : (a b fact : Fact) → CanWrite a → CanWrite b → ((given : Facts) (i j : ℕ) → Cites given i a → Cites given j b → (l : Line) × Gives p t given l (Some fact))
      → CanWrite fact
  from_two a b fact first second next =
      write_line p t (λ given. IsThere a given × IsThere b given) fact (λ given is. next given is.0.0 is.1.0 is.0.1 is.1.1) (write_both p t (IsThere a) (IsThere b) (there_lasts a) first second)

  write_start : (side : Side) (o : Site) (n : Node) → StartIn p (about t) o n → CanWrite (At side o Base n)
  write_start side o n st = write_line p t (λ given. Unit {0}) (At side o Base n) (λ given is. (line.Start side n, (o, st, refl))) (write_none p t)

  write_flow : (side : Side) (o : Site) (e : Entry) (m n : Node) (kind : EdgeKind) → EdgeIn p (about t) m kind n → Keeps side kind → CanWrite (At side o e m) → CanWrite (At side o e n)
  write_flow side o e m n kind along k writes = from_one (At side o e m) (At side o e n) writes (λ given i cites.
      (line.Flow side i n, (kind, record { site = o; entry = e; source = m; cited = cites; edge = along }, k, refl)))

  write_load : (o : Site) (b : Node) (f : ℕ) (below : Entry) (m n : Node) → EdgeIn p (about t) m (edge.Load f) n → CanWrite (At Field o (entry.Field b f) m)
      → CanWrite (Link Field o (entry.Field b f) below) → CanWrite (At Field o below n)
  write_load o b f below m n along at link = from_two (At Field o (entry.Field b f) m) (Link Field o (entry.Field b f) below) (At Field o below n) at link (λ given i j first second.
      (line.Pop Field i j n, (edge.Load f, below, record { site = o; entry = entry.Field b f; source = m; cited = first; edge = along }, refl, second, refl)))

  write_push_field : (o : Site) (e : Entry) (base : Site) (s : StoreAt) (n : Node) → StartIn p (about t) base n → CanWrite (At Field o e s.arg) → CanWrite (Met o base s)
      → CanWrite (At Field o (entry.Field n s.field) n)
  write_push_field o e base s n st at met = from_two (At Field o e s.arg) (Met o base s) (At Field o (entry.Field n s.field) n) at met (λ given i j first second.
      (line.PushField i j n, (record { site = o; entry = e; base = base; store = s; cited = first; met = second; start = st }, refl)))

  write_link_field : (o : Site) (e : Entry) (base : Site) (s : StoreAt) (n : Node) → StartIn p (about t) base n → CanWrite (At Field o e s.arg) → CanWrite (Met o base s)
      → CanWrite (Link Field o (entry.Field n s.field) e)
  write_link_field o e base s n st at met = from_two (At Field o e s.arg) (Met o base s) (Link Field o (entry.Field n s.field) e) at met (λ given i j first second.
      (line.LinkField i j n, (record { site = o; entry = e; base = base; store = s; cited = first; met = second; start = st }, refl)))

  write_put : (o : Site) (e : Entry) (base : Site) (s : StoreAt) (n : Node) → StartIn p (about t) base n → CanWrite (At Call o e s.arg) → CanWrite (Met o base s) → CanWrite (At Call o Base n)
  write_put o e base s n st at met = from_two (At Call o e s.arg) (Met o base s) (At Call o Base n) at met (λ given i j first second.
      (line.Put i j n, (record { site = o; entry = e; base = base; store = s; cited = first; met = second; start = st }, refl)))

  write_jump : (o : Site) (e : Entry) (m n : Node) → EdgeIn p (about t) m edge.Jump n → CanWrite (At Call o e m) → CanWrite (At Call o Base n)
  write_jump o e m n along at = from_one (At Call o e m) (At Call o Base n) at (λ given i cites.
      (line.Jump i n, (record { site = o; entry = e; source = m; cited = cites; edge = along }, refl)))

  write_push_call : (o : Site) (e : Entry) (m n : Node) (call : Place) → EdgeIn p (about t) m (edge.Call call) n → CanWrite (At Call o e m) → CanWrite (At Call o (entry.Call n call) n)
  write_push_call o e m n call along at = from_one (At Call o e m) (At Call o (entry.Call n call) n) at (λ given i cites.
      (line.PushCall i n, (call, record { site = o; entry = e; source = m; cited = cites; edge = along }, refl)))

  write_link_call : (o : Site) (e : Entry) (m n : Node) (call : Place) → EdgeIn p (about t) m (edge.Call call) n → CanWrite (At Call o e m) → CanWrite (Link Call o (entry.Call n call) e)
  write_link_call o e m n call along at = from_one (At Call o e m) (Link Call o (entry.Call n call) e) at (λ given i cites.
      (line.LinkCall i n, (call, record { site = o; entry = e; source = m; cited = cites; edge = along }, refl)))

  write_return : (o : Site) (b : Node) (call : Place) (below : Entry) (m n : Node) → EdgeIn p (about t) m (edge.Return call) n → CanWrite (At Call o (entry.Call b call) m)
      → CanWrite (Link Call o (entry.Call b call) below) → CanWrite (At Call o below n)
  write_return o b call below m n along at link = from_two (At Call o (entry.Call b call) m) (Link Call o (entry.Call b call) below) (At Call o below n) at link (λ given i j first second.
      (line.Pop Call i j n, (edge.Return call, below, record { site = o; entry = entry.Call b call; source = m; cited = first; edge = along }, refl, second, refl)))

  write_base : (o : Site) (m n : Node) (call : Place) → EdgeIn p (about t) m (edge.Return call) n → CanWrite (At Call o Base m) → CanWrite (At Call o Base n)
  write_base o m n call along at = from_one (At Call o Base m) (At Call o Base n) at (λ given i cites.
      (line.BasePop i n, (call, record { site = o; entry = Base; source = m; cited = cites; edge = along }, refl, refl)))

  -- the word of fields is that of the entry and of those below it
  abbrev pub SpellsWord : Site → Entry → List ℕ → Type 0
  SpellsWord o e [] = e ≡ Base
  SpellsWord o e (f ∷ word) = (b : Node) × (below : Entry) × (e ≡ entry.Field b f) × CanWrite (Link Field o (entry.Field b f) below) × SpellsWord o below word

  -- the string begins with the calls of the entry and of those below it, and goes on as one of the method that these reach
  pub data SpellsString (o : Site) : Entry → ℕ → List Place → Type 0 where
    rest : {method : ℕ} {string : List Place} → IsString p method string → SpellsString o Base method string
    link : {b : Node} {call : Place} {below : Entry} {method : ℕ} {string : List Place} → CanWrite (Link Call o (entry.Call b call) below) → SpellsString o below call.method string
        → SpellsString o (entry.Call b call) method (call ∷ string)

  -- over meets that can be written
  module _ (Meet : Site → Site → StoreAt → Type 0) (met : (o base : Site) (s : StoreAt) → Meet o base s → CanWrite (Met o base s)) (o : Site) where
    pub fields_written : {n : Node} {word : List ℕ} → InFields p (about t) Meet o n word → (e : Entry) × CanWrite (At Field o e n) × SpellsWord o e word
    fields_written (InFields.start {n} st) = (Base, write_start Field o n st, refl)
    fields_written (InFields.keep {a} {b} {kind} e k c) = let r = fields_written c in (r.0, write_flow Field o r.0 a b kind e k r.1, r.2)
    fields_written (InFields.load {a} {b} {field} e c) =
        let r = fields_written c in
        let spelled = r.2 in
        let at : CanWrite (At Field o (entry.Field spelled.0 field) a) = subst (λ (x : Entry). CanWrite (At Field o x a)) spelled.2 r.1 in
        (spelled.1, write_load o spelled.0 field spelled.1 a b e at spelled.3, spelled.4)
    fields_written (InFields.store {base} {s} {n} m st c) =
        let r = fields_written c in (
          entry.Field n s.field,
          write_push_field o r.0 base s n st r.1 (met o base s m),
          (n, r.0, refl, write_link_field o r.0 base s n st r.1 (met o base s m), r.2),
        )

    pub record CallsWritten (n : Node) (string : List Place) : Type 0 where
      pub entry : Entry
      pub at : CanWrite (At Call o entry n)
      pub spelled : SpellsString o entry n.place.method string

    -- behind a return
    returned_written : (a b : Node) (call : Place) (string : List Place) → EdgeIn p (about t) a (edge.Return call) b → (e : Entry) (method : ℕ) → method ≡ a.place.method
        → CanWrite (At Call o e a) → (whole : List Place) → whole ≡ call ∷ string → SpellsString o e method whole → CallsWritten b string
    returned_written a b call string along Base method here at whole is (SpellsString.rest s) =
        let leads = return_leads p a b call along.0 in
        let below : IsString p call.method string = (string_called p (subst (λ (w : List Place). IsString p method w) is s)).below in
        record {
          entry = Base;
          at = write_base o a b call along at;
          spelled = SpellsString.rest (subst (λ (x : ℕ). IsString p x string) (sym leads.to) below);
        }
    returned_written a b call string along (entry.Call x c) method here at whole is (SpellsString.link {below} {string = behind} linked more) =
        let leads = return_leads p a b call along.0 in
        let same : c ≡ call = cc in
        let others : behind ≡ string = cc in
        let e : c.method ≡ b.place.method = ap (λ (x : Place). x.method) same ∙ sym leads.to in
        record {
          entry = below;
          at = write_return o x c below a b (subst (λ (y : Place). EdgeIn p (about t) a (edge.Return y) b) (sym same) along) at linked;
          spelled = subst (λ (w : List Place). SpellsString o below b.place.method w) others (subst (λ (m : ℕ). SpellsString o below m behind) e more);
        }
    returned_written a b call string along (entry.Field x f) method here at whole is spelled = elim spelled [ ]

    pub calls_written : {n : Node} {string : List Place} → InCalls p (about t) Meet o n string → CallsWritten n string
    calls_written (InCalls.start {n} st is) = record { entry = Base; at = write_start Call o n st; spelled = SpellsString.rest is }
    calls_written (InCalls.keep {a} {b} {kind} {string} e k c) =
        let r = calls_written c in
        record {
          entry = r.entry;
          at = write_flow Call o r.entry a b kind e k r.at;
          spelled = subst (λ (m : ℕ). SpellsString o r.entry m string) (sym (keep_stays p a b kind e.0 k)) r.spelled;
        }
    calls_written (InCalls.push {a} {b} {call} {string} e c) =
        let r = calls_written c in
        record {
          entry = entry.Call b call;
          at = write_push_call o r.entry a b call e r.at;
          spelled = SpellsString.link (write_link_call o r.entry a b call e r.at) (subst (λ (x : Place). SpellsString o r.entry x.method string) e.0.row.from r.spelled);
        }
    calls_written (InCalls.pop {a} {b} {call} {string} e c) =
        let r = calls_written c in returned_written a b call string e r.entry a.place.method refl r.at (call ∷ string) refl r.spelled
    calls_written (InCalls.jump {a} {b} {old} e c is) =
        let r = calls_written c in record { entry = Base; at = write_jump o r.entry a b e r.at; spelled = SpellsString.rest is }
    calls_written (InCalls.store {base} {s} {n} {old} m st c is) =
        let r = calls_written c in record { entry = Base; at = write_put o r.entry base s n st r.at (met o base s m); spelled = SpellsString.rest is }

  -- lines by which a string is read
  read_on_written : (o : Site) (e : Entry) (method : ℕ) (string : List Place) → SpellsString o e method string → Writes p t (λ given. (links : List ℕ) × ReadsOn p given o links e method string)
  read_on_written o Base method string (SpellsString.rest is) =
      write_as p t (λ given. Unit {0}) (λ given. (links : List ℕ) × ReadsOn p given o links Base method string) (λ given u. ([], (refl, is))) (write_none p t)
  read_on_written o (entry.Call b call) method (call' ∷ string) (SpellsString.link {below} linked more) =
      write_as p t (λ given. IsThere (Link Call o (entry.Call b call) below) given × ((links : List ℕ) × ReadsOn p given o links below call.method string))
      (λ given. (links : List ℕ) × ReadsOn p given o links (entry.Call b call) method (call ∷ string))
      (λ given is. (is.0.0 ∷ is.1.0, (b, below, refl, is.0.1, is.1.1)))
      (write_both p t (IsThere (Link Call o (entry.Call b call) below)) (λ given. (links : List ℕ) × ReadsOn p given o links below call.method string)
      (there_lasts (Link Call o (entry.Call b call) below)) linked (read_on_written o below call.method string more))
  read_on_written o (entry.Field b f) method string spelled = elim spelled [ ]
  read_on_written o (entry.Call b call) method [] spelled = elim spelled [ ]

  abbrev pub IsRead : Site → Node → List Place → Facts → Type 0
  IsRead o n string given = (numbers : List ℕ) × Reads p given o numbers n string

  read_written : (o : Site) (e : Entry) (n : Node) (string : List Place) → CanWrite (At Call o e n) → SpellsString o e n.place.method string → Writes p t (IsRead o n string)
  read_written o e n string at spelled =
      write_as p t (λ given. IsThere (At Call o e n) given × ((links : List ℕ) × ReadsOn p given o links e n.place.method string)) (IsRead o n string)
      (λ given is. (is.0.0 ∷ is.1.0, (e, is.0.1, is.1.1)))
      (write_both p t (IsThere (At Call o e n)) (λ given. (links : List ℕ) × ReadsOn p given o links e n.place.method string) (there_lasts (At Call o e n)) at
      (read_on_written o e n.place.method string spelled))

  -- what may be stored over meets that can be written is one that can be
  stored_written : (Meet : Site → Site → StoreAt → Type 0) → ((o base : Site) (s : StoreAt) → Meet o base s → CanWrite (Met o base s)) → (o base : Site) (s : StoreAt)
      → MayStore p (about t) Meet o base s → CanWrite (Met o base s)
  stored_written Meet met o base s m =
      let string = m.0 in
      let stores = m.1 in
      let arg = calls_written Meet met o stores.at_arg in
      let at = calls_written Meet met base stores.at_base in
      let itself = fields_written Meet met base stores.is_base in
      let reads : Writes p t (λ given. IsRead o s.arg string given × IsRead base s.base string given) =
      write_both p t (IsRead o s.arg string) (IsRead base s.base string)
      (λ old new keeps is. (is.0, reads_lasts p o is.0 s.arg string old new keeps is.1))
      (read_written o arg.entry s.arg string arg.at arg.spelled) (read_written base at.entry s.base string at.at at.spelled) in
      let shared : CanWrite (Shared o s.arg base s.base) =
      write_line p t (λ given. IsRead o s.arg string given × IsRead base s.base string given) (Shared o s.arg base s.base)
      (λ given is. (
        line.Shared is.0.0 is.1.0 string,
        (record { object = o; arg = s.arg; base = base; at = s.base; reads_object = is.0.1; reads_base = is.1.1 }, refl),
      )) reads in
      let there : CanWrite (At Field base Base s.base) = subst (λ (x : Entry). CanWrite (At Field base x s.base)) itself.2 itself.1 in
      from_two (Shared o s.arg base s.base) (At Field base Base s.base) (Met o base s) shared there (λ given i j first second. (
        line.Meet i j,
        (record { object = o; base = base; store = s; under_one = first; as_base = second; store_in = stores.store; has = stores.has }, refl),
      ))

  -- so each meet can be written
  after_written : (rounds : ℕ) (o base : Site) (s : StoreAt) → MetAfter p (about t) rounds o base s → CanWrite (Met o base s)
  after_written zero o base s h = elim h [ ]
  after_written (suc rounds) o base s (inl h) = after_written rounds o base s h
  after_written (suc rounds) o base s (inr m) = stored_written (MetAfter p (about t) rounds) (after_written rounds) o base s m

  met_written : (o base : Site) (s : StoreAt) → Meets p (about t) o base s → CanWrite (Met o base s)
  met_written o base s m = after_written m.0 o base s m.1

  -- and what is answered is claimed
  pub answered_certified : (o : Site) → IsAnswered p (about t) t o → IsShown p t o
  answered_certified o is =
      let fields = fields_written (Meets p (about t)) met_written o is.0 in
      let calls = calls_written (Meets p (about t)) met_written o is.1.1 in
      let by_fields : CanWrite (At Field o Base t) = subst (λ (x : Entry). CanWrite (At Field o x t)) fields.2 fields.1 in
      let both = write_both p t (IsThere (At Field o Base t)) (IsThere (At Call o calls.entry t)) (there_lasts (At Field o Base t)) by_fields calls.at (nothing_written p t) in
      let i = both.has.0.0 in
      let j = both.has.1.0 in (
        both.to.lines ++ line.Claim i j ∷ [],
        record {
          given = both.to.given ++ None ∷ [];
          are_given = given_more p t both.to.lines both.to.given (line.Claim i j) None both.to.are
              (record { site = o; entry = calls.entry; by_fields = both.has.0.1; by_calls = both.has.1.1 }, refl);
          field = i;
          call = j;
          last = (both.to.lines, refl);
          of_site = cites_push both.to.given None i (At Field o Base t) both.has.0.1;
        },
      )
