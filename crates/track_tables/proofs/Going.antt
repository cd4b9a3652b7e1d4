-- One more node was gone on from, and back over open marks.
use Rattle.std.proofs.Common.{◌≡◌, ◌<◌, ◌≤◌, ◌+◌, ℕ, List, length, Some, slice_get, sym, subst, inl, inr, arith}
use Rattle.std.proofs.lemmas.Bool.{cases_lt}
use Rattle.demand_set.specs.declared.numbered.EdgeAt.{EdgeAt}
use Rattle.lists.specs.Lists.{Has}
use Rattle.lists.proofs.Places.{slice_get-below, slice_get-there}
use Rattle.link_rules.specs.Linked.{LinkedProgram}
use Rattle.link_sites.specs.declared.site.Site.{Site}
use Rattle.post_star.specs.declared.key.Key.TheVariants as key
use Rattle.post_star.specs.Groups.{found_at}
use Rattle.spds_rules.specs.declared.node.Node.{Node}
use Rattle.spds_rules.specs.Demand.{Asked}
use Rattle.track_rules.specs.Protocols.{ProtocolParts}
use Rattle.track_tables.specs.declared.growth.Growth.{Growth}
use Rattle.track_tables.specs.declared.parts.TrackParts.{TrackParts}
use Rattle.track_tables.specs.declared.returns.Return.{Return}
use Rattle.track_tables.specs.Making.{IsGrown, IsPast, IsTaken}
use Rattle.track_tables.proofs.Growing.{grown_more, past_kept, past_more}
use Rattle.track_tables.proofs.Taken.{taken_kept}

module _ (p : LinkedProgram) (k : ProtocolParts) (q : Asked) (a : Site) (nodes : List Node) (parts : TrackParts) where
  abbrev Took : EdgeAt → Growth → Type 0
  Took e g = IsTaken p k q a nodes parts.calls e g.work.rules

  -- what was taken from the first nodes
  abbrev pub IsOnward : Growth → ℕ → Type 0
  IsOnward g at = (number : ℕ) (e : EdgeAt) → IsPast g.reached.keys at number → Has (found_at parts.onward (key.Node number)) e → Took e g

  abbrev pub IsBack : Growth → ℕ → Type 0
  IsBack g at = (r : Return) → Has parts.returns r → IsPast g.reached.keys at r.edge.from → Has g.marks.keys r.mark → Took r.edge g

  module _ (old over on new : Growth) (at node seen : ℕ) (first : IsGrown old over) (second : IsGrown over on) (third : IsGrown on new)
      (there : slice_get old.reached.keys at ≡ Some node) (seen_is : seen ≡ length old.marks.keys) where
    all : IsGrown old new
    all = grown_more old over new first (grown_more over on new second third)

    half : IsGrown old on
    half = grown_more old over on first second

    later : (e : EdgeAt) (g h : Growth) → IsGrown g h → Took e g → Took e h
    later e g h grown = taken_kept p k q a nodes parts.calls e g.work.rules h.work.rules grown.rules

    pub onward_more : ((e : EdgeAt) → Has (found_at parts.onward (key.Node node)) e → Took e on) → IsOnward old at → IsOnward new (at + 1)
    onward_more now was number e is has = elim (past_more old.reached.keys new.reached.keys at node number all.reached there is) [
      | inl before ↦ later e old new all (was number e before has)
      | inr same ↦ later e on new third (now e (subst (λ (n : ℕ). Has (found_at parts.onward (key.Node n)) e) same has))
    ]

    pub back_more : ((r : Return) → Has parts.returns r → r.edge.from ≡ node → Has old.marks.keys r.mark → Took r.edge over)
        → ((r : Return) (i : ℕ) → Has parts.returns r → IsPast on.reached.keys (at + 1) r.edge.from → seen ≤ i → slice_get new.marks.keys i ≡ Some r.mark → Took r.edge new)
        → IsBack old at → IsBack new (at + 1)
    back_more now come was r has is mark =
        let here = past_more old.reached.keys new.reached.keys at node r.edge.from all.reached there is in
        elim (cases_lt mark.0 seen) [
          | inl before ↦
              let x = slice_get-there old.marks.keys mark.0 (omega (arith, seen_is, before)) in
              let kept = all.marks mark.0 x.0 x.1 in
              let found = mark.1 in
              let same : x.0 ≡ r.mark = cc in
              let open_before : Has old.marks.keys r.mark = (mark.0, subst (λ (m : ℕ). slice_get old.marks.keys mark.0 ≡ Some m) same x.1) in
              elim here [
                | inl earlier ↦ later r.edge old new all (was r has earlier open_before)
                | inr same_node ↦ later r.edge over new (grown_more over on new second third) (now r has same_node open_before)
              ]
          | inr after ↦ come r mark.0 has (elim here [
            | inl earlier ↦ (earlier.0, (let low = earlier.1 in omega arith), half.reached earlier.0 r.edge.from earlier.2)
            | inr same_node ↦ (at, omega arith, half.reached at r.edge.from (subst (λ (n : ℕ). slice_get old.reached.keys at ≡ Some n) (sym same_node) there))
          ]) after mark.1
        ]

  -- what was taken back from the first nodes over the marks of the numbers from one on
  abbrev pub IsCome : Growth → Growth → ℕ → ℕ → ℕ → Type 0
  IsCome first g at seen number = (r : Return) (i : ℕ) → Has parts.returns r → IsPast first.reached.keys at r.edge.from → seen ≤ i → i < number
      → slice_get g.marks.keys i ≡ Some r.mark → Took r.edge g

  module _ (first old new : Growth) (at seen number mark : ℕ) (before : IsGrown first old) (grown : IsGrown old new) (there : slice_get old.marks.keys number ≡ Some mark) where
    pub come_more : ((r : Return) → Has parts.returns r → r.mark ≡ mark → IsPast old.reached.keys at r.edge.from → Took r.edge new) → IsCome first old at seen number
        → IsCome first new at seen (number + 1)
    come_more now was r i has from low below is = elim (cases_lt i number) [
      | inl earlier ↦
          let x = slice_get-there old.marks.keys i (omega (arith, earlier, slice_get-below old.marks.keys number mark there)) in
          let kept = grown.marks i x.0 x.1 in
          let same : x.0 ≡ r.mark = cc in
          taken_kept p k q a nodes parts.calls r.edge old.work.rules new.work.rules grown.rules
          (was r i has from low earlier (subst (λ (m : ℕ). slice_get old.marks.keys i ≡ Some m) same x.1))
      | inr other ↦
          let last : i ≡ number = omega arith in
          let kept = grown.marks number mark there in
          let here : slice_get new.marks.keys number ≡ Some r.mark = subst (λ (n : ℕ). slice_get new.marks.keys n ≡ Some r.mark) last is in
          let same : r.mark ≡ mark = cc in
          now r has same (past_kept first.reached.keys old.reached.keys at r.edge.from before.reached from)
    ]

  -- what was taken back from a node over the first marks
  abbrev pub IsCrossed : Growth → ℕ → ℕ → Type 0
  IsCrossed g node at = (r : Return) → Has parts.returns r → r.edge.from ≡ node → IsPast g.marks.keys at r.mark → Took r.edge g

  pub crossed_more : (old new : Growth) (node at mark : ℕ) → IsGrown old new → slice_get old.marks.keys at ≡ Some mark
      → ((r : Return) → Has parts.returns r → r.edge.from ≡ node → r.mark ≡ mark → Took r.edge new) → IsCrossed old node at → IsCrossed new node (at + 1)
  crossed_more old new node at mark grown there now was r has from is = elim (past_more old.marks.keys new.marks.keys at mark r.mark grown.marks there is) [
    | inl before ↦ taken_kept p k q a nodes parts.calls r.edge old.work.rules new.work.rules grown.rules (was r has from before)
    | inr same ↦ now r has from same
  ]
