-- What the facts of a certificate say of the two systems.
use Rattle.std.proofs.Common.{◌≡◌, ℕ, List, [], ◌∷◌, sym, subst}
use Rattle.link_rules.specs.Linked.{LinkedProgram}
use Rattle.link_rules.specs.WellLinked.{IsWellLinked}
use Rattle.link_sites.specs.declared.place.Place.{Place}
use Rattle.link_sites.specs.declared.site.Site.{Site}
use Rattle.spds_rules.specs.declared.edge.EdgeKind.{EdgeKind}
use Rattle.spds_rules.specs.declared.edge.EdgeKind.TheVariants as edge
use Rattle.spds_rules.specs.declared.node.Node.{Node}
use Rattle.spds_rules.specs.declared.store.StoreAt.{StoreAt}
use Rattle.spds_rules.specs.Demand.{Asked, EdgeIn, StartIn}
use Rattle.spds_rules.specs.Nodes.{IsNode}
use Rattle.spds_rules.specs.Systems.{Calls, Fields, InCalls, InFields, IsString, Meets}
use Rattle.spds_laws.proofs.Crossings.{keep_stays, return_leads}
use Rattle.spds_laws.proofs.Strings.{call_string, node_string}
use Rattle.cert_rules.specs.declared.fact.Entry.{Entry}
use Rattle.cert_rules.specs.declared.fact.Entry.TheVariants as entry
use Rattle.cert_rules.specs.declared.fact.Entry.TheVariants.{Base}
use Rattle.cert_rules.specs.declared.fact.Fact.{Fact}
use Rattle.cert_rules.specs.declared.fact.Fact.TheVariants.{At, Link, Shared, Met}
use Rattle.cert_rules.specs.declared.line.Side.{Side}
use Rattle.cert_rules.specs.declared.line.Side.TheVariants.{Field, Call}
use Rattle.cert_rules.specs.Given.{Keeps, Takes}

module _ (p : LinkedProgram) (q : Asked) where
  -- an object is at a node with an entry: of fields, the words of the entry's node are words of this one; of calls, its strings are
  abbrev pub MeansAt : Side → Site → Entry → Node → Type 0
  MeansAt Field o Base n = Fields p q o n []
  MeansAt Field o (entry.Field b f) n = (word : List ℕ) → Fields p q o b (f ∷ word) → Fields p q o n (f ∷ word)
  MeansAt Field o (entry.Call b c) n = ⊥
  MeansAt Call o Base n = (string : List Place) → IsString p n.place.method string → Calls p q o n string
  MeansAt Call o (entry.Call b c) n =
      ((string : List Place) × Calls p q o b (c ∷ string)) × ((string : List Place) → Calls p q o b (c ∷ string) → Calls p q o n (c ∷ string))
  MeansAt Call o (entry.Field b f) n = ⊥

  -- below the first letter of one entry stand the words of another
  abbrev pub MeansLink : Side → Site → Entry → Entry → Type 0
  MeansLink Field o (entry.Field b f) Base = Fields p q o b (f ∷ [])
  MeansLink Field o (entry.Field b f) (entry.Field d g) = (word : List ℕ) → Fields p q o d (g ∷ word) → Fields p q o b (f ∷ g ∷ word)
  MeansLink Field o (entry.Field b f) (entry.Call d g) = ⊥
  MeansLink Field o (entry.Call b c) below = ⊥
  MeansLink Field o Base below = ⊥
  MeansLink Call o (entry.Call b c) Base = (string : List Place) → IsString p c.method string → Calls p q o b (c ∷ string)
  MeansLink Call o (entry.Call b c) (entry.Call d g) =
      ((string : List Place) × Calls p q o d (g ∷ string)) × ((string : List Place) → Calls p q o d (g ∷ string) → Calls p q o b (c ∷ g ∷ string))
  MeansLink Call o (entry.Call b c) (entry.Field d g) = ⊥
  MeansLink Call o (entry.Field b f) below = ⊥
  MeansLink Call o Base below = ⊥

  abbrev pub Means : Fact → Type 0
  Means (At side o e n) = MeansAt side o e n
  Means (Link side o e below) = MeansLink side o e below
  Means (Shared o n b m) = (string : List Place) × Calls p q o n string × Calls p q b m string
  Means (Met o b s) = Meets p q o b s

  -- edges that keep the words
  pub kept : (side : Side) (o : Site) (e : Entry) (m n : Node) (kind : EdgeKind) → EdgeIn p q m kind n → Keeps side kind → MeansAt side o e m → MeansAt side o e n
  kept Field o Base m n kind edge k h = InFields.keep edge k h
  kept Field o (entry.Field b f) m n kind edge k h = λ word c. InFields.keep edge k (h word c)
  kept Field o (entry.Call b c) m n kind edge k h = h
  kept Call o Base m n kind edge k h =
      λ string is. InCalls.keep edge k (h string (subst (λ (x : ℕ). IsString p x string) (keep_stays p m n kind edge.0 k) is))
  kept Call o (entry.Call b c) m n kind edge k h = (h.0, λ string at. InCalls.keep edge k (h.1 string at))
  kept Call o (entry.Field b f) m n kind edge k h = h

  -- a store puts what stands below its field
  pub stored_below : (o : Site) (e : Entry) (base : Site) (s : StoreAt) (n : Node) → Meets p q o base s → StartIn p q base n → MeansAt Field o e s.arg
      → MeansLink Field o (entry.Field n s.field) e
  stored_below o Base base s n m st h = InFields.store m st h
  stored_below o (entry.Field d g) base s n m st h = λ word c. InFields.store m st (h word c)
  stored_below o (entry.Call d g) base s n m st h = h

  -- a call puts what stands below it
  pub called_below : (o : Site) (e : Entry) (m n : Node) (call : Place) → m.place ≡ call → EdgeIn p q m (edge.Call call) n → MeansAt Call o e m → MeansLink Call o (entry.Call n call) e
  called_below o Base m n call from edge h = λ string is. InCalls.push edge (h string (subst (λ (x : Place). IsString p x.method string) (sym from) is))
  called_below o (entry.Call d g) m n call from edge h = (h.0, λ string at. InCalls.push edge (h.1 string at))
  called_below o (entry.Field d g) m n call from edge h = h

  -- a letter that is taken off
  pub loaded : (o : Site) (b : Node) (f : ℕ) (below : Entry) (m n : Node) → MeansAt Field o (entry.Field b f) m → MeansLink Field o (entry.Field b f) below → EdgeIn p q m (edge.Load f) n
      → MeansAt Field o below n
  loaded o b f Base m n h link edge = InFields.load edge (h [] link)
  loaded o b f (entry.Field d g) m n h link edge = λ word c. InFields.load edge (h (g ∷ word) (link word c))
  loaded o b f (entry.Call d g) m n h link edge = link

  pub returned : (o : Site) (b : Node) (call : Place) (below : Entry) (m n : Node) → MeansAt Call o (entry.Call b call) m → MeansLink Call o (entry.Call b call) below
      → EdgeIn p q m (edge.Return call) n → MeansAt Call o below n
  returned o b call Base m n h link edge =
      let leads = return_leads p m n call edge.0 in
      λ string is. InCalls.pop edge (h.1 string (link string (subst (λ (x : ℕ). IsString p x string) leads.to is)))
  returned o b call (entry.Call d g) m n h link edge = (link.0, λ string at. InCalls.pop edge (h.1 (g ∷ string) (link.1 string at)))
  returned o b call (entry.Field d g) m n h link edge = link

  pub returned_base : (o : Site) (call : Place) (m n : Node) → MeansAt Call o Base m → EdgeIn p q m (edge.Return call) n → MeansAt Call o Base n
  returned_base o call m n h edge =
      let leads = return_leads p m n call edge.0 in
      λ string is. InCalls.pop edge (h (call ∷ string) (call_string p call m.place.method string leads.is_before leads.target (subst (λ (x : ℕ). IsString p x string) leads.to is)))

  -- a letter of the entry, and what stands below it, as one of the two sides has it
  pub popped : (side : Side) (o : Site) (e below : Entry) (m n : Node) (kind : EdgeKind) → Takes side e kind → MeansAt side o e m → MeansLink side o e below → EdgeIn p q m kind n
      → MeansAt side o below n
  popped Field o (entry.Field b f) below m n (edge.Load g) takes h link e =
      loaded o b f below m n h link (subst (λ (x : ℕ). EdgeIn p q m (edge.Load x) n) (sym takes) e)
  popped Call o (entry.Call b c) below m n (edge.Return d) takes h link e =
      returned o b c below m n h link (subst (λ (x : Place). EdgeIn p q m (edge.Return x) n) (sym takes) e)
  popped Field o Base below m n kind takes h link e = absurd takes
  popped Field o (entry.Call b c) below m n kind takes h link e = absurd takes
  popped Field o (entry.Field b f) below m n edge.Flow takes h link e = absurd takes
  popped Field o (entry.Field b f) below m n (edge.Call c) takes h link e = absurd takes
  popped Field o (entry.Field b f) below m n (edge.Return c) takes h link e = absurd takes
  popped Field o (entry.Field b f) below m n edge.Jump takes h link e = absurd takes
  popped Call o Base below m n kind takes h link e = absurd takes
  popped Call o (entry.Field b f) below m n kind takes h link e = absurd takes
  popped Call o (entry.Call b c) below m n edge.Flow takes h link e = absurd takes
  popped Call o (entry.Call b c) below m n (edge.Load f) takes h link e = absurd takes
  popped Call o (entry.Call b c) below m n (edge.Call d) takes h link e = absurd takes
  popped Call o (entry.Call b c) below m n edge.Jump takes h link e = absurd takes

  -- an object that may be at a node of a well linked program may be there under some string
  pub some_string : IsWellLinked p → (o : Site) (e : Entry) (m : Node) → IsNode p m → MeansAt Call o e m → (string : List Place) × Calls p q o m string
  some_string well o Base m node h = let s = node_string p well m node in (s.0, h s.0 s.1)
  some_string well o (entry.Call b c) m node h = (c ∷ h.0.0, h.1 h.0.0 h.0.1)
  some_string well o (entry.Field b f) m node h = absurd h

  -- a string whose first calls are those of an entry and of those below it
  abbrev pub Reaches : Site → Entry → ℕ → List Place → Type 0
  Reaches o Base method string = IsString p method string
  Reaches o (entry.Call b c) method string = (rest : List Place) × (string ≡ c ∷ rest) × Calls p q o b (c ∷ rest)
  Reaches o (entry.Field b f) method string = ⊥

  pub reaches_at : (o : Site) (e : Entry) (n : Node) (string : List Place) → MeansAt Call o e n → Reaches o e n.place.method string → Calls p q o n string
  reaches_at o Base n string h is = h string is
  reaches_at o (entry.Call b c) n string h r = subst (λ (s : List Place). Calls p q o n s) (sym r.1) (h.1 r.0 r.2)
  reaches_at o (entry.Field b f) n string h r = absurd h

  pub reaches_link : (o : Site) (b : Node) (call : Place) (below : Entry) (string : List Place) → MeansLink Call o (entry.Call b call) below → Reaches o below call.method string
      → Calls p q o b (call ∷ string)
  reaches_link o b call Base string link is = link string is
  reaches_link o b call (entry.Call d g) string link r = subst (λ (s : List Place). Calls p q o b (call ∷ s)) (sym r.1) (link.1 r.0 r.2)
  reaches_link o b call (entry.Field d g) string link r = absurd link
