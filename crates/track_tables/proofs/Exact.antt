-- The derivations of a site's system lead state 0 exactly to the states that are tracked: numbers stand for nodes, and words for call strings.
use Rattle.std.proofs.Common.{◌≡◌, ◌↔◌, ℕ, ◌<◌, List, [], ◌∷◌, Some, slice_get, refl, sym, ap, subst, arith}
use Rattle.call_side.specs.Bases.{AreMarks}
use Rattle.call_side.proofs.CallStrings.{string_word}
use Rattle.demand_set.specs.Demands.{DemandParts}
use Rattle.lists.specs.Lists.{Has}
use Rattle.link_rules.specs.declared.code.Code.TheVariants as code
use Rattle.link_rules.specs.Linked.{LinkedProgram}
use Rattle.link_sites.specs.declared.place.Place.{Place}
use Rattle.link_sites.specs.declared.site.Site.{Site}
use Rattle.post_star.specs.declared.bases.Start.{Start}
use Rattle.post_star.specs.Derivations.{Derives, DerivesAny, IsAnyValue, Leads}
use Rattle.post_star.specs.Derivations as derivations
use Rattle.post_star.specs.Jobs.{Job}
use Rattle.spds_laws.proofs.Crossings.{call_leads}
use Rattle.spds_rules.specs.declared.edge.EdgeKind.{EdgeKind}
use Rattle.spds_rules.specs.declared.edge.EdgeKind.TheVariants.{Call, Flow, Return}
use Rattle.spds_rules.specs.declared.node.Node.{Node}
use Rattle.spds_rules.specs.Demand.{Asked, Demanded, EdgeIn}
use Rattle.spds_rules.specs.Systems.{IsString}
use Rattle.track_rules.specs.Protocols.{ProtocolParts}
use Rattle.track_systems.specs.Laws.{IsAmongSixteen}
use Rattle.track_systems.specs.Track.{Tracks}
use Rattle.track_systems.specs.Track as track
use Rattle.track_systems.proofs.Few.{tracks_few}
use Rattle.weight_laws.proofs.Meaning.{meaning}
use Rattle.track_tables.specs.Systems.{Begins, IsBeginning, IsCrossStep, IsEdgeStep, IsTrackSystem, LeadsAlong}
use Rattle.track_tables.specs.Systems as systems
use Rattle.track_tables.proofs.Sums.{sum_leads}
use Rattle.weight_laws.specs.declared.rel.Rel.{Rel}
use Rattle.weight_laws.specs.Rel.{Relates, rel_domain}

module _ (p : LinkedProgram) (k : ProtocolParts) (q : Asked) (a : Site) (d : DemandParts) (job : Job Rel) (is : IsTrackSystem p k q a d job) where
  abbrev DerivesHere : ℕ → List ℕ → Rel → Type 0
  DerivesHere = Derives rel_domain job.rules job.starts job.steps job.last

  -- the node with the number is tracked in the state, under the string of the word
  record IsIn (number : ℕ) (word : List ℕ) (i : ℕ) : Type 0 where
    node : Node
    string : List Place
    there : slice_get d.nodes number ≡ Some node
    marks : AreMarks is.calls word string
    tracks : Tracks p k q a node string i

  in_node : (number : ℕ) (n m : Node) (string : List Place) (i : ℕ) → slice_get d.nodes number ≡ Some n → slice_get d.nodes number ≡ Some m
      → Tracks p k q a m string i → Tracks p k q a n string i
  in_node number n m string i there here tracks = let same : m ≡ n = cc in subst (λ (x : Node). Tracks p k q a x string i) same tracks

  begun : (n : Node) (string : List Place) (i : ℕ) → Begins p k q a n i → IsString p n.place.method string → Tracks p k q a n string i
  begun n string i (systems.fresh start made) is_string = track.fresh start made is_string
  begun n string i (systems.constant start not_made sends) is_string = track.constant start not_made is_string sends
  begun n string i (systems.loaded edge is_loaded answered sends) is_string = track.loaded edge is_loaded answered is_string sends

  start_in : (s : Start Rel) (word : List ℕ) (i : ℕ) → Has job.starts s → Leads job.steps s.base word job.last → i < 16 → Relates s.weight 0 i
      → IsIn s.node word i
  start_in s word i has leads low h =
      let begins = (is.starts s.base s.node i low).0 (s.weight, has, h) in
      let spelt = (is.steps job.last s.base word is.last).0 leads in
      record {
        node = begins.node;
        string = spelt.string;
        there = begins.there;
        marks = spelt.marks;
        tracks = begun begins.node spelt.string i begins.begins (subst (λ (m : ℕ). IsString p m spelt.string) begins.method_is spelt.is_string);
      }

  pop_in : (word : List ℕ) (from mark to i : ℕ) (node : Node) (string : List Place) → IsCrossStep p k q a d.nodes is.calls Return from mark to i i
      → slice_get d.nodes from ≡ Some node → AreMarks is.calls (mark ∷ word) string → Tracks p k q a node string i → IsIn to word i
  pop_in word from mark to i node [] over there marks tracks = absurd marks
  pop_in word from mark to i node (call ∷ string) over there marks tracks =
      let same : call ≡ over.0 = cc (marks.0, over.1) in
      let step = over.2 in
      let source = in_node from step.source node (call ∷ string) i step.from_is there tracks in
      record {
        node = step.target;
        string = string;
        there = step.to_is;
        marks = marks.1;
        tracks = track.leaves step.edge (subst (λ (c : Place). Tracks p k q a step.source (c ∷ string) i) same source);
      }

  -- a derivation leads to states that are tracked
  derived_in : {number : ℕ} {word : List ℕ} {w : Rel} → DerivesHere number word w → (i : ℕ) → i < 16 → Relates w 0 i → IsIn number word i
  derived_in (Derives.starts_at {s} {word} has leads) = λ i low h. start_in s word i has leads low h
  derived_in (Derives.flows {from} {to} {word} {x} {weight} has dx) = λ i low h.
      let over = (meaning.extend x weight 0 i (omega arith)).0 h in
      let was = derived_in dx over.0 over.1 over.2 in
      let step = (is.flows from to over.0 i over.1 low (word, x, dx)).0 (weight, has, over.3) in
      record {
        node = step.target;
        string = was.string;
        there = step.to_is;
        marks = was.marks;
        tracks = track.flows step.edge (in_node from step.source was.node was.string over.0 step.from_is was.there was.tracks) step.along;
      }
  derived_in (Derives.pushes {from} {to} {mark} {word} {x} {weight} has dx) = λ i low h.
      let over = (meaning.extend x weight 0 i (omega arith)).0 h in
      let was = derived_in dx over.0 over.1 over.2 in
      let cross = (is.pushes from to mark over.0 i over.1 low (word, x, dx)).0 (weight, has, over.3) in
      let step = cross.2 in
      record {
        node = step.target;
        string = cross.0 ∷ was.string;
        there = step.to_is;
        marks = (cross.1, was.marks);
        tracks = track.enters step.edge (in_node from step.source was.node was.string over.0 step.from_is was.there was.tracks) step.along;
      }
  derived_in (Derives.pops {from} {mark} {to} {word} {x} {weight} has dx) = λ i low h.
      let over = (meaning.extend x weight 0 i (omega arith)).0 h in
      let was = derived_in dx over.0 over.1 over.2 in
      let cross = (is.pops from mark to over.0 i over.1 low (word, x, dx)).0 (weight, has, over.3) in
      let same : over.0 ≡ i = sym cross.2.along in
      pop_in word from mark to i was.node was.string (subst (λ (j : ℕ). IsCrossStep p k q a d.nodes is.calls Return from mark to j i) same cross) was.there was.marks
      (subst (λ (j : ℕ). Tracks p k q a was.node was.string j) same was.tracks)

  -- a word of the string is derived at the node, with a weight that leads to the state
  record IsThread (n : Node) (string : List Place) (i : ℕ) : Type 0 where
    word : List ℕ
    marks : AreMarks is.calls word string
    derived : (number : ℕ) → slice_get d.nodes number ≡ Some n → (w : Rel) × DerivesHere number word w × Relates w 0 i

  -- a call with a target has a number
  call_numbered : (b n : Node) (call : Place) → EdgeIn p q b (Call call) n → Has is.calls call
  call_numbered b n call e =
      let enters = call_leads p b n call e.0 in
      let t = enters.target in
      (is.are_calls.each call).1 (
        ap (λ (c : Place). c.raised) enters.is_before,
        record {
          code = code.Call t.to t.mode t.class t.key t.receiver t.args t.targets;
          at = record { method = t.method; there = t.there; here = t.call };
          is_so = tt;
        },
      )

  numbered : (b n : Node) (kind : EdgeKind) → EdgeIn p q b kind n → Has d.nodes b
  numbered b n kind e = is.demand.nodes.all b (Demanded.source e.0 e.1)

  start_thread : (n : Node) (string : List Place) (i : ℕ) → i < 16 → Begins p k q a n i → IsString p n.place.method string → IsThread n string i
  start_thread n string i low begins is_string =
      let spelt = string_word p is.calls is.are_calls is_string in
      record {
        word = spelt.0;
        marks = spelt.1;
        derived = λ number there.
            let has = (is.starts n.place.method number i low).1 (record { node = n; there = there; method_is = refl; begins = begins }) in
            let leads : Leads job.steps n.place.method spelt.0 job.last =
            (is.steps job.last n.place.method spelt.0 is.last).1 (record { string = string; is_string = is_string; marks = spelt.1 }) in
            (has.0, Derives.starts_at has.1 leads, has.2);
      }

  flow_thread : (b n : Node) (string : List Place) (i j : ℕ) → i < 16 → j < 16 → EdgeIn p q b Flow n → LeadsAlong p k q a b Flow n i j → IsThread b string i
      → IsThread n string j
  flow_thread b n string i j low few edge along was =
      let from = numbered b n Flow edge in
      let before = was.derived from.0 from.1 in
      record {
        word = was.word;
        marks = was.marks;
        derived = λ number there.
            let step = (is.flows from.0 number i j low few (was.word, before.0, before.1)).1
            (record { source = b; target = n; edge = edge; from_is = from.1; to_is = there; along = along }) in
            (rel_domain.extend before.0 step.0, Derives.flows step.1 before.1, (meaning.extend before.0 step.0 0 j (omega arith)).1 (i, low, before.2, step.2));
      }

  enter_thread : (b n : Node) (call : Place) (string : List Place) (i j : ℕ) → i < 16 → j < 16 → EdgeIn p q b (Call call) n → LeadsAlong p k q a b (Call call) n i j
      → IsThread b string i → IsThread n (call ∷ string) j
  enter_thread b n call string i j low few edge along was =
      let from = numbered b n (Call call) edge in
      let before = was.derived from.0 from.1 in
      let mark = call_numbered b n call edge in
      record {
        word = mark.0 ∷ was.word;
        marks = (mark.1, was.marks);
        derived = λ number there.
            let step = (is.pushes from.0 number mark.0 i j low few (was.word, before.0, before.1)).1
            (call, mark.1, record { source = b; target = n; edge = edge; from_is = from.1; to_is = there; along = along }) in
            (rel_domain.extend before.0 step.0, Derives.pushes step.1 before.1, (meaning.extend before.0 step.0 0 j (omega arith)).1 (i, low, before.2, step.2));
      }

  leave_thread : (b n : Node) (call : Place) (string : List Place) (i : ℕ) (word : List ℕ) → i < 16 → EdgeIn p q b (Return call) n
      → AreMarks is.calls word (call ∷ string)
      → ((number : ℕ) → slice_get d.nodes number ≡ Some b → (w : Rel) × DerivesHere number word w × Relates w 0 i)
      → IsThread n string i
  leave_thread b n call string i [] low edge marks derived = absurd marks
  leave_thread b n call string i (mark ∷ word) low edge marks derived =
      let from = numbered b n (Return call) edge in
      let before = derived from.0 from.1 in
      record {
        word = word;
        marks = marks.1;
        derived = λ number there.
            let step = (is.pops from.0 mark number i i low low (word, before.0, before.1)).1
            (call, marks.0, record { source = b; target = n; edge = edge; from_is = from.1; to_is = there; along = refl }) in
            (rel_domain.extend before.0 step.0, Derives.pops step.1 before.1, (meaning.extend before.0 step.0 0 i (omega arith)).1 (i, low, before.2, step.2));
      }

  module _ (few : IsAmongSixteen k) where
    low_of : {n : Node} {string : List Place} {i : ℕ} → Tracks p k q a n string i → i < 16
    low_of tracks = tracks_few p k q a few tracks

    -- what is tracked is led to
    thread : {n : Node} {string : List Place} {i : ℕ} → Tracks p k q a n string i → IsThread n string i
    thread (track.fresh {n} {string} start made is_string) = start_thread n string 0 (omega arith) (systems.fresh start made) is_string
    thread (track.constant {n} {string} {i} start not_made is_string sends) =
        start_thread n string i (low_of (track.constant start not_made is_string sends)) (systems.constant start not_made sends) is_string
    thread (track.loaded {b} {n} {kind} {string} {i} edge is_loaded answered is_string sends) =
        start_thread n string i (low_of (track.loaded edge is_loaded answered is_string sends)) (systems.loaded edge is_loaded answered sends) is_string
    thread (track.flows {b} {n} {string} {i} {j} edge tracks changes) =
        flow_thread b n string i j (low_of tracks) (low_of (track.flows edge tracks changes)) edge changes (thread tracks)
    thread (track.enters {b} {n} {call} {string} {i} {j} edge tracks owns) =
        enter_thread b n call string i j (low_of tracks) (low_of (track.enters edge tracks owns)) edge owns (thread tracks)
    thread (track.leaves {b} {n} {call} {string} {i} edge tracks) =
        let was = thread tracks in leave_thread b n call string i was.word (low_of tracks) edge was.marks was.derived

    -- the value of a node leads state 0 exactly to the states that are tracked there under some call string
    pub value_exact : (number : ℕ) (n : Node) (v : Rel) (i : ℕ) → slice_get d.nodes number ≡ Some n → i < 16
        → IsAnyValue rel_domain job.rules job.starts job.steps job.last number v → Relates v 0 i ↔ ((string : List Place) × Tracks p k q a n string i)
    value_exact number n v i there low sum = (
      λ h. from_any ((leads.0 h).0) ((leads.0 h).1) ((leads.0 h).2),
      λ tracks. let found = (thread tracks.1).derived number there in leads.1 (found.0, derivations.any_word found.1, found.2),
    )
      where
        leads : Relates v 0 i ↔ ((w : Rel) × DerivesAny rel_domain job.rules job.starts job.steps job.last number w × Relates w 0 i)
        leads = sum_leads (DerivesAny rel_domain job.rules job.starts job.steps job.last number) v sum 0 i (omega arith)

        from_any : (w : Rel) → DerivesAny rel_domain job.rules job.starts job.steps job.last number w → Relates w 0 i
            → (string : List Place) × Tracks p k q a n string i
        from_any w (derivations.any_word dw) h = let found = derived_in dw i low h in (found.string, in_node number n found.node found.string i there found.there found.tracks)
