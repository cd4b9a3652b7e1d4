-- Findings by event statement, and by site.
use Rattle.std.proofs.Common.{◌≡◌, ◌↔◌, ◌⊎◌, ℕ, zero, suc, ◌+◌, ◌<◌, ◌≤◌, List, [], ◌∷◌, ◌++◌, Some, get_or, length, map, slice_get, take, inl, inr, refl, sym, ap, ◌∙◌, subst, arith}
use Rattle.std.specs.Global.{Vec}
use Rattle.std.specs.List.{AllPairs, flat_map}
use Rattle.std.proofs.lemmas.List.{flat_map_more, length-map, take_all}
use Rattle.std.proofs.lemmas.Option.{get_or_from_slice_get}
use Rattle.lists.specs.Lists.{Has, AreExactly}
use Rattle.lists.proofs.Places.{slice_get-there, Has-push, take-next}
use Rattle.lists.proofs.Joined.{AllPairs-at, slice_get-mapped}
use Rattle.link_program.proofs.Found.{at_map}
use Rattle.link_rules.specs.Linked.{LinkedProgram}
use Rattle.link_sites.specs.declared.place.Place.{Place}
use Rattle.link_sites.specs.declared.site.Site.{Site}
use Rattle.link_sites.specs.Places.{ComesBefore}
use Rattle.link_sites.specs.Sites.{Precedes}
use Rattle.query_core.proofs.OneWay.{sites_one_way, statements_one_way}
use Rattle.spds_laws.proofs.Found.{slice_get-taken}
use Rattle.spds_rules.specs.Answers.{IsAnswered}
use Rattle.spds_rules.specs.Demand.{Asked}
use Rattle.site_events.specs.declared.event_statement.EventStatement.{EventStatement}
use Rattle.site_events.specs.EventStatements.{AreEventStatements, StandsBefore, receiver_node}
use Rattle.track_rules.specs.Protocols.{ProtocolParts}
use Rattle.track_systems.specs.Findings.{AreFindings, IsFound}
use Rattle.track_verdicts.specs.declared.verdict.Finding.{Finding}
use Rattle.track_verdicts.specs.Found.{found_of}
use Rattle.type_track.specs.declared.receivers.Receiver.{Receiver}
use Rattle.type_track.specs.Growing.{GrowsBy}
use Rattle.type_track.specs.Findings.{IsKeptBefore, IsOneFinding, IsFindingAt, IsFindingOf}
use Rattle.type_track.proofs.Findings.{answered_at, found_at}
use Rattle.type_track.proofs.Growing.{grows_more, grows_none, grows_same, grown_exactly}

-- what stands earlier among receivers, its statement does
earlier : (receivers : List Receiver) (statements : List EventStatement) → map (λ r. r.statement) receivers ≡ statements → AllPairs StandsBefore statements
    → (i j : ℕ) (r x : Receiver) → i < j → slice_get receivers i ≡ Some r → slice_get receivers j ≡ Some x → StandsBefore r.statement x.statement
earlier receivers statements in_order ordered i j r x less there here =
    let first : slice_get statements i ≡ Some r.statement = subst (λ (ss : List EventStatement). slice_get ss i ≡ Some r.statement) in_order (at_map (λ (y : Receiver). y.statement) receivers i r there) in
    let second : slice_get statements j ≡ Some x.statement = subst (λ (ss : List EventStatement). slice_get ss j ≡ Some x.statement) in_order (at_map (λ (y : Receiver). y.statement) receivers j x here) in
    AllPairs-at StandsBefore statements i j r.statement x.statement ordered less first second

module _ (p : LinkedProgram) (k : ProtocolParts) (q : Asked) (a : Site) (receivers : List Receiver) where
  -- a finding of the site at one of the event statements at these places
  pub record IsFindingAmong (places : List ℕ) (f : Finding) : Type 0 where
    pub place : ℕ
    pub has : Has places place
    pub receiver : Receiver
    pub there : slice_get receivers place ≡ Some receiver
    pub is_at : IsFindingAt p k q a receiver.statement f

  -- at one place more
  among_more : (places : List ℕ) (i : ℕ) (x : Receiver) (f : Finding) → slice_get receivers i ≡ Some x
      → IsFindingAmong (places ++ i ∷ []) f ↔ (IsFindingAmong places f ⊎ IsFindingAt p k q a x.statement f)
  among_more places i x f here = (
    (λ h. elim ((Has-push places i h.place).0 h.has) [
      | inl was ↦ inl (record { place = h.place; has = was; receiver = h.receiver; there = h.there; is_at = h.is_at })
      | inr e ↦
          let read = subst (λ (n : ℕ). slice_get receivers n ≡ Some h.receiver) e h.there in
          let same : h.receiver ≡ x = cc in
          inr (subst (λ (r : Receiver). IsFindingAt p k q a r.statement f) same h.is_at)
    ]),
    (λ h. elim h [
      | inl was ↦ record { place = was.place; has = (Has-push places i was.place).1 (inl was.has); receiver = was.receiver; there = was.there; is_at = was.is_at }
      | inr new ↦ record { place = i; has = (Has-push places i i).1 (inr refl); receiver = x; there = here; is_at = new }
    ]),
  )

  module _ (places : List ℕ) (old : List Finding) where
    pub among_none : GrowsBy (IsKeptBefore p) (IsFindingAmong (take 0 places)) old old
    among_none = grows_none (IsKeptBefore p) old (λ f h. let has = h.has in cc has.1)

    module _ (statements : List EventStatement) (in_order : map (λ r. r.statement) receivers ≡ statements) (are : AreEventStatements p k statements)
        (increasing : AllPairs (λ i j. i < j) places) where
      pub among_next : (index i : ℕ) (x : Receiver) (mid new : List Finding) → slice_get places index ≡ Some i → slice_get receivers i ≡ Some x
          → GrowsBy (IsKeptBefore p) (IsFindingAmong (take index places)) old mid → GrowsBy (IsKeptBefore p) (IsFindingAt p k q a x.statement) mid new
          → GrowsBy (IsKeptBefore p) (IsFindingAmong (take (index + 1) places)) old new
      among_next index i x mid new at here one two =
          grows_more (IsKeptBefore p) one two before
          (λ f. subst (λ (is : List ℕ). IsFindingAmong is f ↔ (IsFindingAmong (take index places) f ⊎ IsFindingAt p k q a x.statement f)) (sym (take-next places index i at))
          (among_more (take index places) i x f here))
        where
          before : (f g : Finding) → IsFindingAmong (take index places) f → IsFindingAt p k q a x.statement g → IsKeptBefore p f g
          before f g h h' =
              let was = slice_get-taken index places h.has.0 h.place h.has.1 in
              let less = AllPairs-at (λ i j. i < j) places h.has.0 index h.place i increasing was.0 was.1 at in
              let stands = earlier receivers statements in_order are.ordered h.place i h.receiver x less h.there here in
              let first : ComesBefore f.place x.statement.place = subst (λ (c : Place). ComesBefore c x.statement.place) (sym h.is_at.place) stands in
              inr (h.is_at.site ∙ sym h'.site, inl (subst (λ (c : Place). ComesBefore f.place c) (sym h'.place) first))

      pub among_all : (index : ℕ) (new : List Finding) → length places ≤ index
          → ((i : ℕ) (r : Receiver) → slice_get receivers i ≡ Some r → IsAnswered p q (receiver_node r.statement) a → Has places i)
          → GrowsBy (IsKeptBefore p) (IsFindingAmong (take index places)) old new → GrowsBy (IsKeptBefore p) (IsFindingOf p k q a) old new
      among_all index new past held grown = grows_same (IsKeptBefore p) grown (λ f. (
        (λ h.
            let s = found_at p k q statements are a f h.0 h.1 in
            let there : slice_get (map (λ (y : Receiver). y.statement) receivers) s.1.0 ≡ Some s.0 = subst (λ (ss : List EventStatement). slice_get ss s.1.0 ≡ Some s.0) (sym in_order) s.1.1 in
            let r = slice_get-mapped (λ (y : Receiver). y.statement) receivers s.1.0 s.0 there in
            let is_at = subst (λ (x : EventStatement). IsFindingAt p k q a x f) (sym r.2) s.2 in
            record {
              place = s.1.0;
              has = subst (λ (is : List ℕ). Has is s.1.0) (sym (take_all index places past))
                  (held s.1.0 r.0 r.1 (answered_at p k q a r.0.statement ((are.each r.0.statement).0 (s.1.0, subst (λ (x : EventStatement). slice_get statements s.1.0 ≡ Some x) (sym r.2) s.1.1)) f is_at));
              receiver = r.0;
              there = r.1;
              is_at = is_at;
            }),
        (λ h. (h.is_at.is_one, h.is_at.site)),
      ))

module _ (p : LinkedProgram) (k : ProtocolParts) (q : Asked) where
  -- a finding of one of these sites
  abbrev pub IsFindingIn : List Site → Finding → Type 0
  IsFindingIn sites f = IsOneFinding p k q f × Has sites f.site

  pub sites_none : (sites : List Site) (old : List Finding) → GrowsBy (IsKeptBefore p) (IsFindingIn (take 0 sites)) old old
  sites_none sites old = grows_none (IsKeptBefore p) old (λ f h. let has = h.1 in cc has.1)

  pub sites_next : (sites : List Site) → AllPairs (Precedes p) sites → (old mid new : List Finding) (i : ℕ) (a : Site) → slice_get sites i ≡ Some a
      → GrowsBy (IsKeptBefore p) (IsFindingIn (take i sites)) old mid → GrowsBy (IsKeptBefore p) (IsFindingOf p k q a) mid new
      → GrowsBy (IsKeptBefore p) (IsFindingIn (take (i + 1) sites)) old new
  sites_next sites ordered old mid new i a here one two =
      grows_more (IsKeptBefore p) one two before
      (λ f. subst (λ (some : List Site). IsFindingIn some f ↔ (IsFindingIn (take i sites) f ⊎ IsFindingOf p k q a f)) (sym (take-next sites i a here)) (more f))
    where
      before : (f g : Finding) → IsFindingIn (take i sites) f → IsFindingOf p k q a g → IsKeptBefore p f g
      before f g h h' =
          let there = slice_get-taken i sites h.1.0 f.site h.1.1 in
          let precedes = AllPairs-at (Precedes p) sites h.1.0 i f.site a ordered there.0 there.1 here in
          inl (subst (λ (b : Site). Precedes p f.site b) (sym h'.1) precedes)

      more : (f : Finding) → IsFindingIn (take i sites ++ a ∷ []) f ↔ (IsFindingIn (take i sites) f ⊎ IsFindingOf p k q a f)
      more f = (
        (λ h. elim ((Has-push (take i sites) a f.site).0 h.1) [ inl was ↦ inl (h.0, was) | inr e ↦ inr (h.0, e) ]),
        (λ h. elim h [
          | inl was ↦ (was.0, (Has-push (take i sites) a f.site).1 (inl was.1))
          | inr is ↦ (is.0, (Has-push (take i sites) a f.site).1 (inr is.1))
        ]),
      )

  -- findings that come behind none come behind any
  found_behind : (a : Site) (old found : List Finding) → GrowsBy (IsKeptBefore p) (IsFindingOf p k q a) [] found
      → GrowsBy (IsKeptBefore p) (IsFindingOf p k q a) old (old ++ found)
  found_behind a old found g = record { added = g.added; grown = ap (λ (xs : List Finding). old ++ xs) g.grown; exact = g.exact }

  -- those of a list for each site, one behind the other
  pub sites_joined : (sites : List Site) → AllPairs (Precedes p) sites → (lists : List (Vec Finding)) → length lists ≡ length sites
      → ((i : ℕ) (a : Site) (list : Vec Finding) → slice_get sites i ≡ Some a → slice_get lists i ≡ Some list
      → GrowsBy (IsKeptBefore p) (IsFindingOf p k q a) [] list.items)
      → (n : ℕ) → n ≤ length lists → GrowsBy (IsKeptBefore p) (IsFindingIn (take n sites)) [] (flat_map (λ list. list.items) (take n lists))
  sites_joined sites ordered lists count each zero low = sites_none sites []
  sites_joined sites ordered lists count each (suc n) low =
      let items : Vec Finding → List Finding = λ list. list.items in
      let list = slice_get-there lists n (omega (arith, low)) in
      let a = slice_get-there sites n (omega (arith, low, count)) in
      let was = sites_joined sites ordered lists count each n (omega (arith, low)) in
      let mid = flat_map items (take n lists) in
      let grown = sites_next sites ordered [] mid (mid ++ items list.0) n a.0 a.1 was (found_behind a.0 mid (items list.0) (each n a.0 list.0 a.1 list.1)) in
      let same : mid ++ items list.0 ≡ flat_map items (take (n + 1) lists) =
      flat_map_more items [] (take n lists) list.0 ∙ ap (flat_map items) (sym (take-next lists n list.0 list.1)) in
      let next : n + 1 ≡ suc n = omega arith in
      subst (λ (m : ℕ). GrowsBy (IsKeptBefore p) (IsFindingIn (take m sites)) [] (flat_map items (take m lists))) next
      (subst (λ (xs : List Finding). GrowsBy (IsKeptBefore p) (IsFindingIn (take (n + 1) sites)) [] xs) same grown)

  -- findings as what they name
  pub named : (findings : List Finding) → AreExactly (IsKeptBefore p) (IsOneFinding p k q) findings → AreFindings p k q (map found_of findings)
  named findings exact = record {
    each = λ f. (
      (λ has.
          let x = slice_get-mapped found_of findings has.0 f has.1 in
          let is : IsFound p k q (found_of x.0) = (exact.each x.0).0 (has.0, x.1) in
          subst (IsFound p k q) x.2 is),
      (λ is.
          let x : Finding = record { site = f.site; place = f.place; state = f.state; event = f.event } in
          let has = (exact.each x).1 is in
          (has.0, at_map found_of findings has.0 x has.1)),
    );
    ordered = λ i j d less below.
        let inside : j < length findings = let same = length-map findings found_of in omega arith in
        let x = slice_get-there findings i (omega arith) in
        let y = slice_get-there findings j inside in
        let first : get_or (map found_of findings) i d ≡ found_of x.0 = get_or_from_slice_get (map found_of findings) i (found_of x.0) d (at_map found_of findings i x.0 x.1) in
        let second : get_or (map found_of findings) j d ≡ found_of y.0 = get_or_from_slice_get (map found_of findings) j (found_of y.0) d (at_map found_of findings j y.0 y.1) in
        let before = exact.ordered i j x.0 less inside in
        rw (first, second) (rw (get_or_from_slice_get findings i x.0 x.0 x.1, get_or_from_slice_get findings j y.0 x.0 y.1) at before);
  }

  -- those of all sites
  pub sites_all : (sites : List Site) (findings : List Finding) (i : ℕ) → length sites ≤ i → ((f : Finding) → IsOneFinding p k q f → Has sites f.site)
      → GrowsBy (IsKeptBefore p) (IsFindingIn (take i sites)) [] findings → AreFindings p k q (map found_of findings)
  sites_all sites findings i past within grown =
      named findings (grown_exactly (IsKeptBefore p) (grows_same (IsKeptBefore p) grown (λ f. (
        (λ is. (is, subst (λ (some : List Site). Has some f.site) (sym (take_all i sites past)) (within f is))),
        (λ h. h.0),
      ))))
