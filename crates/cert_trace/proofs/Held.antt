-- Closed lines give what is derived over their meets: fields by lines that are together no longer than the derivation, and call strings by lines that read them.
use Rattle.std.proofs.Common.{◌≡◌, ◌∙◌, ℕ, suc, ◌+◌, ◌≤◌, List, [], ◌∷◌, Some, length, refl, sym, ap, subst, arith}
use Rattle.lists.proofs.Places.{slice_get-below}
use Rattle.link_rules.specs.Linked.{LinkedProgram}
use Rattle.link_sites.specs.declared.place.Place.{Place}
use Rattle.link_sites.specs.declared.site.Site.{Site}
use Rattle.spds_rules.specs.declared.edge.EdgeKind.{EdgeKind}
use Rattle.spds_rules.specs.declared.edge.EdgeKind.TheVariants as edge
use Rattle.spds_rules.specs.declared.node.Node.{Node}
use Rattle.spds_rules.specs.declared.store.StoreAt.{StoreAt}
use Rattle.spds_rules.specs.Demand.{EdgeIn, about}
use Rattle.spds_rules.specs.Systems.{InCalls, InFields, IsString, KeepsCalls, KeepsFields}
use Rattle.spds_laws.proofs.Crossings.{call_leads, keep_stays, return_leads}
use Rattle.spds_laws.proofs.Strings.{string_called}
use Rattle.cert_rules.specs.declared.fact.Entry.{Entry}
use Rattle.cert_rules.specs.declared.fact.Entry.TheVariants as entry
use Rattle.cert_rules.specs.declared.fact.Entry.TheVariants.{Base}
use Rattle.cert_rules.specs.declared.fact.Fact.{Fact}
use Rattle.cert_rules.specs.declared.fact.Fact.TheVariants.{At, Link}
use Rattle.cert_rules.specs.declared.line.Side.{Side}
use Rattle.cert_rules.specs.declared.line.Side.TheVariants.{Field, Call}
use Rattle.cert_rules.specs.Given.{Cites, ReadsOn}
use Rattle.cert_rules.specs.Lengths.{rules}
use Rattle.cert_laws.proofs.Givens.{cites_one}
use Rattle.cert_lines.specs.Noted.{IsThere, Noted, length_at}
use Rattle.cert_work.specs.declared.wants.Wants.{Wants}
use Rattle.cert_work.specs.Rules.{GoesOn, IsFollowed}
use Rattle.cert_work.specs.Wants.{IsAhead, IsAheadUnder, IsFollowedAt, IsWanted}
use Rattle.cert_trace.specs.Closed.{AreClosedIn, IsRead}

module _ (p : LinkedProgram) (t : Node) (wants : Wants) (w : Noted) (Meet : Site → Site → StoreAt → Type 0) (closed : AreClosedIn p t wants w Meet) (o : Site) where
  less : (f : Fact) (a b : ℕ) → IsThere w f a → a ≤ b → IsThere w f b
  less f a b there le = record { at = there.at; gives = there.gives; short = omega (arith, there.short, le) }

  low : (f : Fact) (n : ℕ) → (there : IsThere w f n) → suc there.at ≤ length w.given
  low f n there = omega (arith, slice_get-below w.given there.at (Some f) there.gives)

  -- a line that put an object of the site where it is followed
  followed : (side : Side) (x : Entry) (a : Node) (i : ℕ) → Cites w.given i (At side o x a) → IsFollowedAt wants o x a → IsFollowed wants w i
  followed side x a i cites wanted side' o' x' n again =
      let same = cites_one w.given i (At side o x a) (At side' o' x' n) cites again in
      let site : o ≡ o' = cc in
      let entry : x ≡ x' = cc in
      let node : a ≡ n = cc in
      subst (λ (y : Site). IsFollowedAt wants y x' n) site (subst (λ (y : Entry). IsFollowedAt wants o y n) entry (subst (λ (y : Node). IsFollowedAt wants o x y) node wanted))

  -- what leads to where it is followed leads from there
  wanted_back : (a b : Node) (kind : EdgeKind) → EdgeIn p (about t) a kind b → IsWanted wants o b → IsWanted wants o a
  wanted_back a b kind along wanted = closed.wanted.back o (record { from = a; to = b; kind = kind }) along wanted

  goes_on : (side : Side) (x : Entry) (a b : Node) (kind : EdgeKind) (n : ℕ) → EdgeIn p (about t) a kind b → IsFollowedAt wants o x a
      → (there : IsThere w (At side o x a) n) → GoesOn w (length_at w there.at) side o x kind b
  goes_on side x a b kind n along wanted there =
      closed.worked.along (suc there.at) (record { from = a; to = b; kind = kind }) (low _ n there) (followed side x a (suc there.at) there.gives wanted) along side o x there.gives

  -- the word is that of the entry and of those below it, by lines of so many rules at most, all together
  abbrev Spells : Entry → List ℕ → ℕ → Type 0
  Spells x [] most = x ≡ Base
  Spells x (f ∷ word) most =
      (b : Node) × (below : Entry) × (first : ℕ) × (rest : ℕ) × (x ≡ entry.Field b f) × (first + rest ≤ most) × IsThere w (Link Field o (entry.Field b f) below) first × Spells below word rest

  pub record AreFieldsHeld (n : Node) (word : List ℕ) (most : ℕ) : Type 0 where
    pub entry : Entry
    pub front : ℕ
    pub behind : ℕ
    pub at : IsThere w (At Field o entry n) front
    pub spelled : Spells entry word behind
    pub fits : front + behind ≤ most

  kept : (kind : EdgeKind) (x : Entry) (b : Node) (n : ℕ) → KeepsFields kind → GoesOn w n Field o x kind b → IsThere w (At Field o x b) (n + 1)
  kept edge.Flow x b n k goes = goes
  kept (edge.Load field) x b n k goes = elim k [ ]
  kept (edge.Call call) x b n k goes = goes
  kept (edge.Return call) x b n k goes = goes
  kept edge.Jump x b n k goes = goes

  -- loads of the word's first field lie ahead of the node, and behind one of them those of the next, and so on
  abbrev pub IsReadOn : Node → List ℕ → Type 0
  IsReadOn n [] = Unit {0}
  IsReadOn n (f ∷ word) = IsAhead wants.ahead f n × (a : Node) × (b : Node) × EdgeIn p (about t) a (edge.Load f) b × IsReadOn b word

  -- as of the word, of the entry with which it begins
  read_entry : (n : Node) (word : List ℕ) → IsReadOn n word → (x : Entry) (most : ℕ) → Spells x word most → IsAheadUnder wants.ahead x n
  read_entry n [] on x most s = subst (λ (y : Entry). IsAheadUnder wants.ahead y n) (sym s) tt
  read_entry n (f ∷ word) on x most s = subst (λ (y : Entry). IsAheadUnder wants.ahead y n) (sym s.4) on.0

  read_back : (a b : Node) (kind : EdgeKind) → EdgeIn p (about t) a kind b → KeepsFields kind → (word : List ℕ) → IsReadOn b word → IsReadOn a word
  read_back a b kind along k [] on = tt
  read_back a b kind along k (f ∷ word) on = (closed.wanted.ahead.kept f a b kind along k on.0, on.1, on.2, on.3, on.4)

  read_arg : (base : Site) (s : StoreAt) → Meet o base s → (n : Node) (word : List ℕ) → IsReadOn n (s.field ∷ word) → IsReadOn s.arg word
  read_arg base s m n [] on = tt
  read_arg base s m n (f ∷ word) on = (closed.wanted.ahead.stored f on.1 on.2 o base s m on.3 on.4.0, on.4.1, on.4.2, on.4.3, on.4.4)

  pub fields_held : {n : Node} {word : List ℕ} (h : InFields p (about t) Meet o n word) → IsWanted wants o n → IsReadOn n word → AreFieldsHeld n word (rules h)
  fields_held (InFields.start {n} st) wanted on =
      record { entry = Base; front = 0; behind = 0; at = closed.starts Field o n st wanted; spelled = refl; fits = omega arith }
  fields_held (InFields.keep {a} {b} {kind} {word} along k c) wanted on =
      let here = wanted_back a b kind along wanted in
      let read = read_back a b kind along k word on in
      let r = fields_held c here read in
      let there = kept kind r.entry b (length_at w r.at.at) k (goes_on Field r.entry a b kind r.front along (here, read_entry a word read r.entry r.behind r.spelled) r.at) in
      record {
        entry = r.entry;
        front = r.front + 1;
        behind = r.behind;
        at = less _ _ (r.front + 1) there (omega (arith, r.at.short));
        spelled = r.spelled;
        fits = omega (arith, r.fits);
      }
  fields_held (InFields.load {a} {b} {field} {word} along c) wanted on =
      let here = wanted_back a b (edge.Load field) along wanted in
      let ahead = closed.wanted.ahead.loaded field a b along in
      let r = fields_held c here (ahead, a, b, along, on) in
      let s = r.spelled in
      let at : IsThere w (At Field o (entry.Field s.0 field) a) r.front = subst (λ (x : Entry). IsThere w (At Field o x a) r.front) s.4 r.at in
      let there =
      closed.worked.popped (suc at.at) (suc s.6.at) (record { from = a; to = b; kind = edge.Load field }) (low _ _ at) (low _ _ s.6)
      (followed Field (entry.Field s.0 field) a (suc at.at) at.gives (here, ahead)) along Field o (entry.Field s.0 field) s.1 at.gives s.6.gives refl in
      record {
        entry = s.1;
        front = r.front + s.2 + 1;
        behind = s.3;
        at = less _ _ (r.front + s.2 + 1) there (omega (arith, at.short, s.6.short));
        spelled = s.7;
        fits = omega (arith, r.fits, s.5);
      }
  fields_held (InFields.store {base} {s} {n} {word} m st c) wanted on =
      let here = closed.wanted.stored o base s n m st wanted in
      let read = read_arg base s m n word on in
      let r = fields_held c here read in
      let met = closed.mets o base s n m st wanted in
      let there =
      closed.worked.put (suc r.at.at) (suc met.1.at) base n (low _ _ r.at) (low _ _ met.1) (followed Field r.entry s.arg (suc r.at.at) r.at.gives (here, read_entry s.arg word read r.entry r.behind r.spelled)) st Field o r.entry s r.at.gives
      met.1.gives in
      record {
        entry = entry.Field n s.field;
        front = 0;
        behind = r.front + 1 + r.behind;
        at = there.0;
        spelled = (n, r.entry, r.front + 1, r.behind, refl, omega arith, less _ _ (r.front + 1) there.1 (omega (arith, r.at.short)), r.spelled);
        fits = omega (arith, r.fits);
      }

  -- a line gives the fact
  abbrev Given : Fact → Type 0
  Given f = (i : ℕ) × Cites w.given (suc i) f

  given_of : (f : Fact) (n : ℕ) → IsThere w f n → Given f
  given_of f n there = (there.at, there.gives)

  given_low : (f : Fact) → (g : Given f) → suc g.0 ≤ length w.given
  given_low f g = omega (arith, slice_get-below w.given g.0 (Some f) g.1)

  calls_on : (x : Entry) (a b : Node) (kind : EdgeKind) → EdgeIn p (about t) a kind b → IsFollowedAt wants o x a → (g : Given (At Call o x a)) → GoesOn w (length_at w g.0) Call o x kind b
  calls_on x a b kind along wanted g =
      closed.worked.along (suc g.0) (record { from = a; to = b; kind = kind }) (given_low _ g) (followed Call x a (suc g.0) g.1 wanted) along Call o x g.1

  -- the string begins with the calls of the entry and of those below it, and goes on as one of the method that these reach
  pub data SpellsString : Entry → ℕ → List Place → Type 0 where
    rest : {method : ℕ} {string : List Place} → IsString p method string → SpellsString Base method string
    link : {b : Node} {call : Place} {below : Entry} {method : ℕ} {string : List Place} → Given (Link Call o (entry.Call b call) below) → SpellsString below call.method string
        → SpellsString (entry.Call b call) method (call ∷ string)

  pub record AreCallsHeld (n : Node) (string : List Place) : Type 0 where
    pub entry : Entry
    pub at : Given (At Call o entry n)
    pub spelled : SpellsString entry n.place.method string

  -- its entry begins with no field
  call_entry : (n : Node) (x : Entry) (method : ℕ) (string : List Place) → SpellsString x method string → IsAheadUnder wants.ahead x n
  call_entry n Base method string spelled = tt
  call_entry n (entry.Call b call) method string spelled = tt
  call_entry n (entry.Field b f) method string spelled = elim spelled [ ]

  stays : (kind : EdgeKind) (x : Entry) (b : Node) (n : ℕ) → KeepsCalls kind → GoesOn w n Call o x kind b → Given (At Call o x b)
  stays edge.Flow x b n k goes = given_of _ _ goes
  stays (edge.Load field) x b n k goes = given_of _ _ goes
  stays (edge.Call call) x b n k goes = elim k [ ]
  stays (edge.Return call) x b n k goes = elim k [ ]
  stays edge.Jump x b n k goes = elim k [ ]

  -- behind a return
  returned : (a b : Node) (call : Place) (string : List Place) → EdgeIn p (about t) a (edge.Return call) b → IsWanted wants o a → (x : Entry) (method : ℕ) → Given (At Call o x a) → (whole : List Place)
      → whole ≡ call ∷ string → SpellsString x method whole → AreCallsHeld b string
  returned a b call string along wanted Base method at whole is (SpellsString.rest s) =
      let leads = return_leads p a b call along.0 in
      let below : IsString p call.method string = (string_called p (subst (λ (v : List Place). IsString p method v) is s)).below in
      record {
        entry = Base;
        at = given_of _ _ (calls_on Base a b (edge.Return call) along (wanted, tt) at refl);
        spelled = SpellsString.rest (subst (λ (m : ℕ). IsString p m string) (sym leads.to) below);
      }
  returned a b call string along wanted (entry.Call x c) method at whole is (SpellsString.link {below} {string = behind} linked more) =
      let leads = return_leads p a b call along.0 in
      let same : c ≡ call = cc in
      let others : behind ≡ string = cc in
      let m : c.method ≡ b.place.method = ap (λ (y : Place). y.method) same ∙ sym leads.to in
      let there =
      closed.worked.popped (suc at.0) (suc linked.0) (record { from = a; to = b; kind = edge.Return call }) (given_low _ at) (given_low _ linked)
      (followed Call (entry.Call x c) a (suc at.0) at.1 (wanted, tt)) along Call o (entry.Call x c) below at.1 linked.1 same in
      record {
        entry = below;
        at = given_of _ _ there;
        spelled = subst (λ (v : List Place). SpellsString below b.place.method v) others (subst (λ (k : ℕ). SpellsString below k behind) m more);
      }
  returned a b call string along wanted (entry.Field x f) method at whole is spelled = elim spelled [ ]

  pub calls_held : {n : Node} {string : List Place} → InCalls p (about t) Meet o n string → IsWanted wants o n → AreCallsHeld n string
  calls_held (InCalls.start {n} st is) wanted = record { entry = Base; at = given_of _ _ (closed.starts Call o n st wanted); spelled = SpellsString.rest is }
  calls_held (InCalls.keep {a} {b} {kind} {string} along k c) wanted =
      let here = wanted_back a b kind along wanted in
      let r = calls_held c here in
      record {
        entry = r.entry;
        at = stays kind r.entry b (length_at w r.at.0) k (calls_on r.entry a b kind along (here, call_entry a r.entry a.place.method string r.spelled) r.at);
        spelled = subst (λ (m : ℕ). SpellsString r.entry m string) (sym (keep_stays p a b kind along.0 k)) r.spelled;
      }
  calls_held (InCalls.push {a} {b} {call} {string} along c) wanted =
      let here = wanted_back a b (edge.Call call) along wanted in
      let r = calls_held c here in
      let there = calls_on r.entry a b (edge.Call call) along (here, call_entry a r.entry a.place.method string r.spelled) r.at in
      let from = (call_leads p a b call along.0).from in
      record {
        entry = entry.Call b call;
        at = given_of _ _ there.0;
        spelled = SpellsString.link (given_of _ _ there.1) (subst (λ (y : Place). SpellsString r.entry y.method string) from r.spelled);
      }
  calls_held (InCalls.pop {a} {b} {call} {string} along c) wanted =
      let here = wanted_back a b (edge.Return call) along wanted in
      let r = calls_held c here in returned a b call string along here r.entry a.place.method r.at (call ∷ string) refl r.spelled
  calls_held (InCalls.jump {a} {b} {old} along c is) wanted =
      let here = wanted_back a b edge.Jump along wanted in
      let r = calls_held c here in
      record {
        entry = Base;
        at = given_of _ _ (calls_on r.entry a b edge.Jump along (here, call_entry a r.entry a.place.method old r.spelled) r.at);
        spelled = SpellsString.rest is;
      }
  calls_held (InCalls.store {base} {s} {n} {old} m st c is) wanted =
      let here = closed.wanted.stored o base s n m st wanted in
      let r = calls_held c here in
      let met = closed.mets o base s n m st wanted in
      let there =
      closed.worked.put (suc r.at.0) (suc met.1.at) base n (given_low _ r.at) (low _ _ met.1) (followed Call r.entry s.arg (suc r.at.0) r.at.1 (here, call_entry s.arg r.entry s.arg.place.method old r.spelled)) st Call o r.entry s r.at.1 met.1.gives in
      record { entry = Base; at = given_of _ _ there; spelled = SpellsString.rest is }

  -- the lines that read it
  reads_on : (x : Entry) (method : ℕ) (string : List Place) → SpellsString x method string → (links : List ℕ) × ReadsOn p w.given o links x method string
  reads_on Base method string (SpellsString.rest is) = ([], (refl, is))
  reads_on (entry.Call b call) method (call' ∷ string) (SpellsString.link {below} linked more) =
      let r = reads_on below call.method string more in (suc linked.0 ∷ r.0, (b, below, refl, linked.1, r.1))
  reads_on (entry.Field b f) method string spelled = elim spelled [ ]
  reads_on (entry.Call b call) method [] spelled = elim spelled [ ]

  pub calls_read : {n : Node} {string : List Place} → InCalls p (about t) Meet o n string → IsWanted wants o n → IsRead p w o n string
  calls_read {n} {string} h wanted =
      let r = calls_held h wanted in
      let links = reads_on r.entry n.place.method string r.spelled in (suc r.at.0 ∷ links.0, (r.entry, r.at.1, links.1))
