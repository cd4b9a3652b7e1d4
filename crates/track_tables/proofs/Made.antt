-- The system of a site, as it is made.
use Rattle.std.proofs.Common.{◌≡◌, ◌↔◌, ◌⊎◌, ℕ, suc, ◌<◌, List, [], Some, true, slice_get, refl, sym, ap, ◌∙◌, subst, inl, inr, arith}
use Rattle.auto_table.specs.declared.rule.Rule.{Rule}
use Rattle.auto_table.specs.declared.rule.Rule.TheVariants as rule
use Rattle.call_side.specs.Bases.{AreStrings, IsLast}
use Rattle.demand_set.specs.Demands.{DemandParts, IsDemandOf, StartsAt}
use Rattle.demand_set.specs.declared.numbered.EdgeAt.{EdgeAt}
use Rattle.demand_set.specs.Numbers.{AreEdgesAt, IsEdgeAt}
use Rattle.lists.specs.Lists.{Has, AreAll}
use Rattle.link_laws.proofs.Lists.{each_left, each_right}
use Rattle.link_rules.specs.Linked.{LinkedProgram}
use Rattle.link_sites.specs.declared.place.Place.{Place}
use Rattle.link_sites.specs.declared.site.Site.{Site}
use Rattle.link_sites.specs.declared.site.Site.TheVariants as site
use Rattle.post_star.specs.declared.bases.BaseStep.{BaseStep}
use Rattle.post_star.specs.declared.bases.Start.{Start}
use Rattle.post_star.specs.declared.key.Key.TheVariants as key
use Rattle.post_star.specs.Derivations.{Derives, Leads}
use Rattle.post_star.specs.Groups.{found_at}
use Rattle.post_star.specs.Jobs.{Job}
use Rattle.post_star.specs.Measures.{to_of}
use Rattle.spds_rules.specs.declared.edge.Edge.{Edge}
use Rattle.spds_rules.specs.declared.edge.EdgeKind.{EdgeKind}
use Rattle.spds_rules.specs.declared.edge.EdgeKind.TheVariants as edge
use Rattle.spds_rules.specs.declared.node.Node.{Node}
use Rattle.spds_rules.specs.Answers.{IsAnswered}
use Rattle.spds_rules.specs.Nodes.{site_of}
use Rattle.spds_rules.specs.Demand.{Asked, Demanded, EdgeIn, StartIn}
use Rattle.track_rules.specs.Protocols.{ProtocolParts}
use Rattle.track_systems.specs.Track.{IsLoaded, IsMade}
use Rattle.track_systems.specs.Values.{IsWeight}
use Rattle.track_systems.specs.Weights.{Anywhere, Sends}
use Rattle.track_tables.specs.declared.growth.Growth.{Growth}
use Rattle.track_tables.specs.declared.parts.TrackParts.{TrackParts}
use Rattle.track_tables.specs.declared.returns.Return.{Return}
use Rattle.track_tables.specs.Begun.{IsBegun, IsFirstWeight}
use Rattle.track_tables.specs.Making.{AreAnswering, AreOf, AreOpenFrom, AreTrackParts, HasBegun, HasStepBy, IsEdgeOf, IsGrown, IsOnward, IsRuleBy, IsRuleOf, IsStartAt, IsTaken}
use Rattle.track_tables.specs.Systems.{Begins, HasStart, HasStep, IsBeginning, IsEdgeStep, IsTrackSystem}
use Rattle.track_tables.specs.Systems as systems
use Rattle.track_tables.proofs.Growing.{kept_has}
use Rattle.track_tables.proofs.Upward.{in_more}
use Rattle.weight_laws.specs.declared.rel.Rel.{Rel}
use Rattle.weight_laws.specs.Rel.{Relates, rel_domain}
use Rattle.spds_tables.proofs.Made.{is_edge}

-- a flow is of an edge of its kind, and so on
flow_of : (calls : List Place) (kind : EdgeKind) (first last from to : ℕ) (weight w : Rel) → IsRuleBy calls kind first last weight (rule.Flow from to w)
    → (kind ≡ edge.Flow) × (first ≡ from) × (last ≡ to) × (weight ≡ w)
flow_of calls edge.Flow first last from to weight w h = (refl, cc, cc, cc)
flow_of calls (edge.Call call) first last from to weight w h = cc h.2
flow_of calls (edge.Return call) first last from to weight w h = cc h.2
flow_of calls (edge.Load field) first last from to weight w h = absurd h
flow_of calls edge.Jump first last from to weight w h = absurd h

push_of : (calls : List Place) (kind : EdgeKind) (first last from to mark : ℕ) (weight w : Rel) → IsRuleBy calls kind first last weight (rule.Push from to mark w)
    → (call : Place) × (slice_get calls mark ≡ Some call) × (kind ≡ edge.Call call) × (first ≡ from) × (last ≡ to) × (weight ≡ w)
push_of calls edge.Flow first last from to mark weight w h = cc
push_of calls (edge.Call call) first last from to mark weight w h =
    let e = h.2 in
    let same : h.0 ≡ mark = cc in
    (call, subst (λ (m : ℕ). slice_get calls m ≡ Some call) same h.1, refl, cc, cc, cc)
push_of calls (edge.Return call) first last from to mark weight w h = cc h.2
push_of calls (edge.Load field) first last from to mark weight w h = absurd h
push_of calls edge.Jump first last from to mark weight w h = absurd h

pop_of : (calls : List Place) (kind : EdgeKind) (first last from mark to : ℕ) (weight w : Rel) → IsRuleBy calls kind first last weight (rule.Pop from mark to w)
    → (call : Place) × (slice_get calls mark ≡ Some call) × (kind ≡ edge.Return call) × (first ≡ from) × (last ≡ to) × (weight ≡ w)
pop_of calls edge.Flow first last from mark to weight w h = cc
pop_of calls (edge.Call call) first last from mark to weight w h = cc h.2
pop_of calls (edge.Return call) first last from mark to weight w h =
    let e = h.2 in
    let same : h.0 ≡ mark = cc in
    (call, subst (λ (m : ℕ). slice_get calls m ≡ Some call) same h.1, refl, cc, cc, cc)
pop_of calls (edge.Load field) first last from mark to weight w h = absurd h
pop_of calls edge.Jump first last from mark to weight w h = absurd h

module _ (p : LinkedProgram) (q : Asked) (d : DemandParts) (demand : IsDemandOf p q d) (edges : List EdgeAt) (numbered : AreEdgesAt d.nodes d.edges edges) where
  -- a numbered edge is one of the demand
  edge_at : (e : EdgeAt) → Has edges e → (b n : Node) → slice_get d.nodes e.from ≡ Some b → slice_get d.nodes e.to ≡ Some n → EdgeIn p q b e.kind n
  edge_at e has b n from_is to_is =
      let x = each_right (IsEdgeAt d.nodes) d.edges edges has.0 e numbered has.1 in
      let known = demand.edges.each x.0 (has.0, x.1) in
      let there = x.2.from_is in
      let here = x.2.to_is in
      let first : x.0.from ≡ b = cc in
      let second : x.0.to ≡ n = cc in
      subst (λ (k : EdgeKind). EdgeIn p q b k n) (sym x.2.kind_is)
      (subst (λ (m : Node). EdgeIn p q b x.0.kind m) second (subst (λ (m : Node). EdgeIn p q m x.0.kind x.0.to) first known))

  -- so it has a source
  source_at : (e : EdgeAt) → Has edges e → (b : Node) × (slice_get d.nodes e.from ≡ Some b)
  source_at e has = let x = each_right (IsEdgeAt d.nodes) d.edges edges has.0 e numbered has.1 in (x.0.from, x.2.from_is)

  -- each edge of the demand is numbered
  at_edge : (b n : Node) (kind : EdgeKind) (from to : ℕ) → EdgeIn p q b kind n → slice_get d.nodes from ≡ Some b → slice_get d.nodes to ≡ Some n
      → Has edges (record { from = from; to = to; kind = kind })
  at_edge b n kind from to known from_is to_is =
      let x : Edge = record { from = b; to = n; kind = kind } in
      let has = demand.edges.all x known in
      let e = each_left (IsEdgeAt d.nodes) d.edges edges has.0 x numbered has.1 in
      let same = is_edge e.0 from to kind (demand.nodes.apart e.0.from from b e.2.from_is from_is) (demand.nodes.apart e.0.to to n e.2.to_is to_is) e.2.kind_is in
      subst (Has edges) same (has.0, e.1)

-- a start of a node from a base
abbrev start_of : ℕ → ℕ → Rel → Start Rel
start_of method number weight = record { base = method; node = number; weight = weight }

-- objects of a site are made, or they are constants
made_or : (a : Site) → IsMade a ⊎ (IsMade a → ⊥)
made_or (site.New place) = inl tt
made_or (site.Nested place level) = inl tt
made_or (site.Raised place kind) = inl tt
made_or (site.Text number) = inr (λ h. h)
made_or (site.Class number) = inr (λ h. h)

module _ (p : LinkedProgram) (k : ProtocolParts) (q : Asked) (a : Site) (d : DemandParts) (demand : IsDemandOf p q d) (parts : TrackParts) (of : AreTrackParts p d parts) where
  module _ (first anywhere : Rel)
      (first_is : IsFirstWeight p k q a first) (anywhere_is : IsWeight anywhere (Sends p k q a Anywhere)) (numbers found : List ℕ)
      (are_starts : AreAll (StartsAt d.nodes a) numbers) (answering : AreAnswering p q d.nodes a parts.loaded.keys found) (zero one two : Growth)
      (no_starts : zero.work.starts ≡ []) (begun : HasBegun p d.nodes numbers first zero one) (more : HasBegun p d.nodes found anywhere one two) where
    started : (node : Node) (i : ℕ) → i < 16 → StartIn p q a node → Relates first 0 i → Begins p k q a node i
    started node i low start h = elim (made_or a) [
      | inl made ↦ subst (λ (j : ℕ). Begins p k q a node j) (sym ((first_is.made made i low).0 h)) (systems.fresh start made)
      | inr other ↦ systems.constant start other ((first_is.constant other i low).0 h)
    ]

    begins_here : (method number i : ℕ) → i < 16 → HasStart two.work.starts method number i → IsBeginning p k q a d.nodes method number i
    begins_here method number i low h = elim ((more.starts (start_of method number h.0)).0 h.1) [
      | inl before ↦ elim ((begun.starts (start_of method number h.0)).0 before) [
        | inl none ↦ absurd (let empty : Has [] (start_of method number h.0) = subst (λ (ss : List (Start Rel)). Has ss (start_of method number h.0)) no_starts none in cc empty.1)
        | inr start ↦
            let is = start.2.start_is in
            let there = start.2.there in
            let known = are_starts.each start.0 start.1 in
            let same : known.0 ≡ start.2.node = (let here = known.1 in cc) in
            let site_of_is = subst (λ (n : Node). site_of n ≡ Some a) same known.2 in
            let number_is : start.0 ≡ number = sym (ap (λ (s : Start Rel). s.node) is) in
            record {
              node = start.2.node;
              there = subst (λ (x : ℕ). slice_get d.nodes x ≡ Some start.2.node) number_is there;
              method_is = ap (λ (s : Start Rel). s.base) is;
              begins = started start.2.node i low ((start.2.is_node, site_of_is), demand.nodes.each start.2.node (start.0, there))
                  (subst (λ (w : Rel). Relates w 0 i) (ap (λ (s : Start Rel). s.weight) is) h.2);
            }
      ]
      | inr load ↦
          let is = load.2.start_is in
          let there = load.2.there in
          let known = (answering load.0 load.2.node there).0 load.1 in
          let came = (of.loaded load.0).0 known.0 in
          let source = source_at p q d demand of.edges of.numbered came.0 came.1 in
          let to_is : slice_get d.nodes came.0.to ≡ Some load.2.node = subst (λ (x : ℕ). slice_get d.nodes x ≡ Some load.2.node) (sym came.3) there in
          let number_is : load.0 ≡ number = sym (ap (λ (s : Start Rel). s.node) is) in
          record {
            node = load.2.node;
            there = subst (λ (x : ℕ). slice_get d.nodes x ≡ Some load.2.node) number_is there;
            method_is = ap (λ (s : Start Rel). s.base) is;
            begins = systems.loaded (edge_at p q d demand of.edges of.numbered came.0 came.1 source.0 load.2.node source.1 to_is) came.2 known.1
                ((anywhere_is.each 0 i (omega arith) low).0 (subst (λ (w : Rel). Relates w 0 i) (ap (λ (s : Start Rel). s.weight) is) h.2));
          }
    ]

    begin_start : (node : Node) (number i : ℕ) → slice_get d.nodes number ≡ Some node → StartIn p q a node → Relates first 0 i
        → HasStart two.work.starts node.place.method number i
    begin_start node number i there start h =
        let s : Start Rel = record { base = node.place.method; node = number; weight = first } in
        let has = are_starts.all number (node, there, start.0.1) in
        (first, (more.starts s).1 (inl ((begun.starts s).1 (inr (number, has, record { node = node; there = there; is_node = start.0.0; start_is = refl })))), h)

    begin_loaded : (b node : Node) (kind : EdgeKind) (number i : ℕ) → i < 16 → slice_get d.nodes number ≡ Some node → EdgeIn p q b kind node → IsLoaded kind
        → IsAnswered p q node a → Sends p k q a Anywhere 0 i → HasStart two.work.starts node.place.method number i
    begin_loaded b node kind number i low there known is_loaded answered sends =
        let s : Start Rel = record { base = node.place.method; node = number; weight = anywhere } in
        let from = demand.nodes.all b (Demanded.source known.0 known.1) in
        let has = at_edge p q d demand of.edges of.numbered b node kind from.0 number known from.1 there in
        let load = (of.loaded number).1 (record { from = from.0; to = number; kind = kind }, has, is_loaded, refl) in
        let among = (answering number node there).1 (load, answered) in (
          anywhere,
          (more.starts s).1 (inr (number, among, record { node = node; there = there; is_node = known.0.to; start_is = refl })),
          (anywhere_is.each 0 i (omega arith) low).1 sends,
        )

    begin_here : (node : Node) (number i : ℕ) → i < 16 → slice_get d.nodes number ≡ Some node → Begins p k q a node i
        → HasStart two.work.starts node.place.method number i
    begin_here node number i low there (systems.fresh start made) = begin_start node number 0 there start ((first_is.made made 0 (omega arith)).1 refl)
    begin_here node number i low there (systems.constant start other sends) = begin_start node number i there start ((first_is.constant other i low).1 sends)
    begin_here node number i low there (systems.loaded {b} {n} {kind} known is_loaded answered sends) =
        begin_loaded b node kind number i low there known is_loaded answered sends

    -- the node of a start, whose method is its base
    home_of : (number : ℕ) (weight : Rel) (s : Start Rel) → IsStartAt p d.nodes number weight s
        → (n : Node) × (slice_get d.nodes s.node ≡ Some n) × (s.base ≡ n.place.method)
    home_of number weight s h = (
      h.node,
      subst (λ (x : ℕ). slice_get d.nodes x ≡ Some h.node) (sym (ap (λ (t : Start Rel). t.node) h.start_is)) h.there,
      ap (λ (t : Start Rel). t.base) h.start_is,
    )

    home : (s : Start Rel) → Has two.work.starts s → (n : Node) × (slice_get d.nodes s.node ≡ Some n) × (s.base ≡ n.place.method)
    home s has = elim ((more.starts s).0 has) [
      | inl before ↦ elim ((begun.starts s).0 before) [
        | inl none ↦ absurd (let empty : Has [] s = subst (λ (ss : List (Start Rel)). Has ss s) no_starts none in cc empty.1)
        | inr start ↦ home_of start.0 first s start.2
      ]
      | inr load ↦ home_of load.0 anywhere s load.2
    ]

    within : (s : Start Rel) → Has two.work.starts s → Has two.reached.keys s.node
    within s has = elim (more.within s has) [
      | inl before ↦ elim (begun.within s before) [
        | inl none ↦ absurd (let empty : Has [] s = subst (λ (ss : List (Start Rel)). Has ss s) no_starts none in cc empty.1)
        | inr there ↦ kept_has one.reached.keys two.reached.keys s.node more.reached there
      ]
      | inr there ↦ there
    ]

    module _ (steps : zero.work.steps ≡ parts.strings.value.steps) (last : zero.work.last ≡ parts.strings.value.last)
        (rules : zero.work.rules ≡ parts.strings.value.rules) (marks : List ℕ)
        (opens : (number : ℕ) (n : Node) (end : ℕ) → Has two.reached.keys number → slice_get d.nodes number ≡ Some n
        → AreOpenFrom parts.strings.value.steps n.place.method end marks) where
      steps_are : two.work.steps ≡ parts.strings.value.steps
      steps_are = more.steps ∙ (begun.steps ∙ steps)

      -- the starts are there, and the marks of the strings with which objects begin
      pub begun_made : (three : Growth) → three.work ≡ two.work → three.reached.keys ≡ two.reached.keys → three.marks.keys ≡ marks → IsBegun p k q a d parts three
      begun_made three work reached is = record {
        steps = ap (λ (j : Job Rel). j.steps) work ∙ steps_are;
        last = ap (λ (j : Job Rel). j.last) work ∙ (more.last ∙ (begun.last ∙ last));
        none = ap (λ (j : Job Rel). j.rules) work ∙ (more.rules ∙ (begun.rules ∙ (rules ∙ of.none)));
        starts = λ method number i low. subst (λ (ss : List (Start Rel)). HasStart ss method number i ↔ IsBeginning p k q a d.nodes method number i) (sym starts_are) (
          begins_here method number i low,
          λ h. subst (λ (m : ℕ). HasStart two.work.starts m number i) (sym h.method_is) (begin_here h.node number i low h.there h.begins),
        );
        within = λ s has. subst (λ (ns : List ℕ). Has ns s.node) (sym reached) (within s (was s has));
        opened = λ s has word mark leads in_word.
            let n = home s (was s has) in
            let from = subst (λ (ss : List BaseStep). Leads ss s.base word three.work.last) (ap (λ (j : Job Rel). j.steps) work ∙ steps_are) leads in
            subst (λ (ms : List ℕ). Has ms mark) (sym is) (opens s.node n.0 three.work.last (within s (was s has)) n.1 word mark
            (subst (λ (b : ℕ). Leads parts.strings.value.steps b word three.work.last) n.2 from) in_word);
      }
        where
          starts_are : three.work.starts ≡ two.work.starts
          starts_are = ap (λ (j : Job Rel). j.starts) work

          was : (s : Start Rel) → Has three.work.starts s → Has two.work.starts s
          was s has = subst (λ (ss : List (Start Rel)). Has ss s) starts_are has

  module _ (zero one : Growth) (begun : IsBegun p k q a d parts zero) (grown : IsGrown zero one)
      (each : AreOf p k q a d.nodes parts.calls (IsEdgeOf parts) zero.work.rules one.work.rules)
      (onward : (number : ℕ) (e : EdgeAt) → Has one.reached.keys number → Has (found_at parts.onward (key.Node number)) e
      → IsTaken p k q a d.nodes parts.calls e one.work.rules)
      (back : (r : Return) → Has parts.returns r → Has one.reached.keys r.edge.from → Has one.marks.keys r.mark
      → IsTaken p k q a d.nodes parts.calls r.edge one.work.rules) where
    no_rule : (r : Rule Rel) → Has zero.work.rules r → ⊥
    no_rule r has = let empty : Has [] r = subst (λ (rs : List (Rule Rel)). Has rs r) begun.none has in cc empty.1

    -- what is derived is reached
    reached_to : (r : Rule Rel) (to : ℕ) → Has one.work.rules r → to_of r ≡ to → Has one.reached.keys to
    reached_to r to has is = elim (grown.within r has) [
      | inl was ↦ absurd (no_rule r was)
      | inr there ↦ subst (λ (n : ℕ). Has one.reached.keys n) is there
    ]

    reached : {number : ℕ} {word : List ℕ} {w : Rel} → Derives rel_domain one.work.rules one.work.starts one.work.steps one.work.last number word w
        → Has one.reached.keys number
    reached (Derives.starts_at {s} has leads) =
        kept_has zero.reached.keys one.reached.keys s.node grown.reached (begun.within s (subst (λ (ss : List (Start Rel)). Has ss s) grown.starts has))
    reached (Derives.flows {from} {to} {word} {x} {weight} has dx) = reached_to (rule.Flow from to weight) to has refl
    reached (Derives.pushes {from} {to} {mark} {word} {x} {weight} has dx) = reached_to (rule.Push from to mark weight) to has refl
    reached (Derives.pops {from} {mark} {to} {word} {x} {weight} has dx) = reached_to (rule.Pop from mark to weight) to has refl

    -- each mark of a word that is derived is open
    opened_for : (from to mark : ℕ) (weight : Rel) → Has one.work.rules (rule.Push from to mark weight) → Has one.marks.keys mark
    opened_for from to mark weight has = elim (grown.opened (rule.Push from to mark weight) has) [
      | inl was ↦ absurd (no_rule (rule.Push from to mark weight) was)
      | inr there ↦ there
    ]

    opened : {number : ℕ} {word : List ℕ} {w : Rel} → Derives rel_domain one.work.rules one.work.starts one.work.steps one.work.last number word w
        → (m : ℕ) → Has word m → Has one.marks.keys m
    opened (Derives.starts_at {s} {word} has leads) = λ m there.
        let here = subst (λ (l : ℕ). Leads zero.work.steps s.base word l) grown.last
        (subst (λ (ss : List BaseStep). Leads ss s.base word one.work.last) grown.steps leads) in
        kept_has zero.marks.keys one.marks.keys m grown.marks (begun.opened s (subst (λ (ss : List (Start Rel)). Has ss s) grown.starts has) word m here there)
    opened (Derives.flows {from} {to} {word} {x} {weight} has dx) = λ m there. opened dx m there
    opened (Derives.pushes {from} {to} {mark} {word} {x} {weight} has dx) = λ m there. elim (in_more mark word m there) [
      | inl same ↦ subst (Has one.marks.keys) (sym same) (opened_for from to mark weight has)
      | inr below ↦ opened dx m below
    ]
    opened (Derives.pops {from} {mark} {to} {word} {x} {weight} has dx) = λ m there. opened dx m (suc there.0, there.1)

    -- an edge of the parts is one of the demand
    edge_has : (e : EdgeAt) → IsEdgeOf parts e → Has of.edges e
    edge_has e among = elim among [
      | inl on ↦ let x = (of.onward on.0 e).0 on.1 in subst (Has of.edges) (sym x.2.0) x.1
      | inr r ↦ let x = (of.returns r.0).0 r.1 in subst (Has of.edges) (sym x.2.0 ∙ r.2) x.1
    ]

    -- a rule is that of an edge of the demand
    step_at : (e : EdgeAt) (r : Rule Rel) (i j : ℕ) → i < 16 → j < 16 → Has of.edges e → (h : IsRuleOf p k q a d.nodes parts.calls e r) → Relates h.weight i j
        → IsEdgeStep p k q a d.nodes e.kind e.from e.to i j
    step_at e r i j low few has h relates = record {
      source = h.source;
      target = h.target;
      edge = edge_at p q d demand of.edges of.numbered e has h.source h.target h.from_is h.to_is;
      from_is = h.from_is;
      to_is = h.to_is;
      along = (h.is_weight.each i j low few).0 relates;
    }

    of_edge : (r : Rule Rel) → Has one.work.rules r → (e : EdgeAt) × Has of.edges e × IsRuleOf p k q a d.nodes parts.calls e r
    of_edge r has = elim (each r has) [
      | inl none ↦ absurd (no_rule r none)
      | inr h ↦ (h.0, edge_has h.0 h.1, h.2)
    ]

    moved : (kind other : EdgeKind) (first from last to i j : ℕ) → kind ≡ other → first ≡ from → last ≡ to → IsEdgeStep p k q a d.nodes kind first last i j
        → IsEdgeStep p k q a d.nodes other from to i j
    moved kind other first from last to i j same_kind same_from same_to h =
        subst (λ (n : ℕ). IsEdgeStep p k q a d.nodes other from n i j) same_to
        (subst (λ (n : ℕ). IsEdgeStep p k q a d.nodes other n last i j) same_from
        (subst (λ (x : EdgeKind). IsEdgeStep p k q a d.nodes x first last i j) same_kind h))

    flow_step : (from to i j : ℕ) → i < 16 → j < 16 → HasStep one.work.rules (λ w. rule.Flow from to w) i j → IsEdgeStep p k q a d.nodes edge.Flow from to i j
    flow_step from to i j low few h =
        let e = of_edge (rule.Flow from to h.0) h.1 in
        let is = flow_of parts.calls e.0.kind e.0.from e.0.to from to e.2.weight h.0 e.2.is_rule in
        moved e.0.kind edge.Flow e.0.from from e.0.to to i j is.0 is.1 is.2
        (step_at e.0 (rule.Flow from to h.0) i j low few e.1 e.2 (subst (λ (w : Rel). Relates w i j) (sym is.3) h.2))

    push_step : (from to mark i j : ℕ) → i < 16 → j < 16 → HasStep one.work.rules (λ w. rule.Push from to mark w) i j
        → (call : Place) × (slice_get parts.calls mark ≡ Some call) × IsEdgeStep p k q a d.nodes (edge.Call call) from to i j
    push_step from to mark i j low few h =
        let e = of_edge (rule.Push from to mark h.0) h.1 in
        let is = push_of parts.calls e.0.kind e.0.from e.0.to from to mark e.2.weight h.0 e.2.is_rule in (
          is.0,
          is.1,
          moved e.0.kind (edge.Call is.0) e.0.from from e.0.to to i j is.2 is.3 is.4
              (step_at e.0 (rule.Push from to mark h.0) i j low few e.1 e.2 (subst (λ (w : Rel). Relates w i j) (sym is.5) h.2)),
        )

    pop_step : (from mark to i j : ℕ) → i < 16 → j < 16 → HasStep one.work.rules (λ w. rule.Pop from mark to w) i j
        → (call : Place) × (slice_get parts.calls mark ≡ Some call) × IsEdgeStep p k q a d.nodes (edge.Return call) from to i j
    pop_step from mark to i j low few h =
        let e = of_edge (rule.Pop from mark to h.0) h.1 in
        let is = pop_of parts.calls e.0.kind e.0.from e.0.to from mark to e.2.weight h.0 e.2.is_rule in (
          is.0,
          is.1,
          moved e.0.kind (edge.Return is.0) e.0.from from e.0.to to i j is.2 is.3 is.4
              (step_at e.0 (rule.Pop from mark to h.0) i j low few e.1 e.2 (subst (λ (w : Rel). Relates w i j) (sym is.5) h.2)),
        )

    -- each edge from where the system comes is taken
    taken_from : (kind : EdgeKind) (from to i j : ℕ) → IsOnward kind → i < 16 → j < 16 → Has one.reached.keys from
        → IsEdgeStep p k q a d.nodes kind from to i j → HasStepBy parts.calls one.work.rules kind from to i j
    taken_from kind from to i j is low few there h =
        let e : EdgeAt = record { from = from; to = to; kind = kind } in
        let has = at_edge p q d demand of.edges of.numbered h.source h.target kind from to h.edge h.from_is h.to_is in
        onward from e there ((of.onward from e).1 (e, has, (refl, is, refl))) h.source h.target i j h.from_is h.to_is low few h.along

    -- and each back from a call whose mark is open
    taken_back : (call : Place) (from mark to i j : ℕ) → slice_get parts.calls mark ≡ Some call → i < 16 → j < 16 → Has one.reached.keys from → Has one.marks.keys mark
        → IsEdgeStep p k q a d.nodes (edge.Return call) from to i j → HasStep one.work.rules (λ w. rule.Pop from mark to w) i j
    taken_back call from mark to i j is low few there open_mark h =
        let e : EdgeAt = record { from = from; to = to; kind = edge.Return call } in
        let r : Return = record { edge = e; mark = mark } in
        let has = at_edge p q d demand of.edges of.numbered h.source h.target (edge.Return call) from to h.edge h.from_is h.to_is in
        back r ((of.returns r).1 (e, has, (refl, is))) there open_mark h.source h.target i j h.from_is h.to_is low few h.along mark is

    abbrev settled_job : Job Rel
    settled_job = record { steps = one.work.steps; last = one.work.last; rules = one.work.rules; starts = one.work.starts; settled = true }

    -- all of it
    pub system_made : IsTrackSystem p k q a d settled_job
    system_made = record {
      demand = demand;
      calls = parts.calls;
      are_calls = of.are_calls;
      steps = subst (AreStrings p parts.calls) (sym (grown.steps ∙ begun.steps)) of.strings;
      last = subst (IsLast p) (sym (grown.last ∙ begun.last)) of.last;
      flows = λ from to i j low few at. (flow_step from to i j low few, taken_from edge.Flow from to i j tt low few (reached at.2));
      pushes = λ from to mark i j low few at. (
        push_step from to mark i j low few,
        λ h. taken_from (edge.Call h.0) from to i j tt low few (reached at.2) h.2 mark h.1,
      );
      pops = λ from mark to i j low few at. (
        pop_step from mark to i j low few,
        λ h. taken_back h.0 from mark to i j h.1 low few (reached at.2) (opened at.2 mark (0, refl)) h.2,
      );
      starts = λ method number i low.
          subst (λ (ss : List (Start Rel)). HasStart ss method number i ↔ IsBeginning p k q a d.nodes method number i) (sym grown.starts) (begun.starts method number i low);
    }
