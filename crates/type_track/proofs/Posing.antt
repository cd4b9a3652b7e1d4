-- What is known in a search.
use Rattle.std.proofs.Common.{◌≡◌, ◌↔◌, ℕ, ◌+◌, ◌<◌, List, [], Some, eqb, get_or, map, slice_get, sym, ap, ◌∙◌, subst, arith}
use Rattle.std.specs.Global.{Vec}
use Rattle.std.proofs.lemmas.Option.{get_or_from_slice_get}
use Rattle.lists.specs.Lists.{Has}
use Rattle.lists.specs.Groups.{found_at}
use Rattle.lists.proofs.Joined.{slice_get-mapped}
use Rattle.link_program.proofs.Found.{at_map}
use Rattle.link_rules.specs.Linked.{LinkedProgram}
use Rattle.link_sites.specs.declared.place.Place.{Place}
use Rattle.link_sites.specs.declared.site.Site.{Site}
use Rattle.piece_join.proofs.Joined.{became}
use Rattle.site_events.specs.Events.{AreHeldAmong}
use Rattle.spds_rules.specs.declared.node.Node.{Node}
use Rattle.spds_rules.specs.Answers.{IsAnswered}
use Rattle.spds_rules.specs.Demand.{Asked}
use Rattle.site_events.specs.declared.event_statement.EventStatement.{EventStatement}
use Rattle.site_events.specs.EventStatements.{IsEventStatement, receiver_node}
use Rattle.track_rules.specs.Protocols.{IsProtocol, ProtocolParts}
use Rattle.track_systems.specs.Events.{IsTrackedSite}
use Rattle.track_systems.specs.Laws.{IsAmongSixteen}
use Rattle.track_systems.specs.Track.{Tracks}
use Rattle.track_verdicts.specs.declared.verdict.Finding.{Finding}
use Rattle.weight_laws.specs.declared.rel.Rel.{Rel}
use Rattle.weight_laws.specs.Rel.{Relates}
use Rattle.type_track.specs.declared.receivers.Receiver.{Receiver}
use Rattle.type_track.specs.declared.search.Search.{Search}
use Rattle.type_track.specs.Findings.{IsBarred, IsKeptBefore, IsFindingAt, IsFindingOf}
use Rattle.type_track.specs.Growing.{GrowsBy}
use Rattle.type_track.specs.Searches.{AreBlank, AreFoundAt, AreSearched, IsPosed, IsSiteAt}
use Rattle.type_track.proofs.Findings.{barred_at, none_of}
use Rattle.type_track.proofs.Growing.{grows_none, grows_same}

-- the site that is read
pub site_read : (read all : List Site) (i : ℕ) (a d : Site) → read ≡ all → slice_get all i ≡ Some a → get_or read i d ≡ a
site_read read all i a d same there = ap (λ (sites : List Site). get_or sites i d) same ∙ get_or_from_slice_get all i a d there

-- the states of a protocol are among sixteen
pub sixteen : (k : ProtocolParts) → IsProtocol k → IsAmongSixteen k
sixteen k form row has = let range = form.rows row has in let few = form.few in let from = range.from in let to = range.to in (omega arith, omega arith)

module _ (q : Asked) (s : Search) (posed : IsPosed q s) where
  abbrev p : LinkedProgram
  p = s.given.linked.now

  abbrev k : ProtocolParts
  k = s.protocol.now

  -- the statement of a receiver stands where it does
  at_statement : (i : ℕ) (r : Receiver) → slice_get s.receivers.now i ≡ Some r → slice_get posed.statements i ≡ Some r.statement
  at_statement i r at =
      subst (λ (ss : List EventStatement). slice_get ss i ≡ Some r.statement) posed.receivers.in_order (at_map (λ (x : Receiver). x.statement) s.receivers.now i r at)

  -- and is one of the event statements
  statement_has : (r : Receiver) → Has s.receivers.now r → Has posed.statements r.statement
  statement_has r has = (has.0, at_statement has.0 r has.1)

  is_event : (r : Receiver) → Has s.receivers.now r → IsEventStatement p k r.statement
  is_event r has = (posed.are_events.each r.statement).0 (statement_has r has)

  -- where no receiver may hold an object of the site there is no finding
  pub grows_quiet : (a : Site) (findings : List Finding)
      → ((r : Receiver) → Has s.receivers.now r → IsAnswered p q (receiver_node r.statement) a → ⊥)
      → GrowsBy (IsKeptBefore p) (IsFindingOf p k q a) findings findings
  grows_quiet a findings none = grows_none (IsKeptBefore p) findings (λ f h. none_of p k q posed.statements posed.are_events a held f h.0 h.1)
    where
      held : (e : EventStatement) → Has posed.statements e → IsAnswered p q (receiver_node e) a → ⊥
      held e has answered =
          let listed : slice_get (map (λ (x : Receiver). x.statement) s.receivers.now) has.0 ≡ Some e = subst (λ (ss : List EventStatement). slice_get ss has.0 ≡ Some e) (sym posed.receivers.in_order) has.1 in
          let r = slice_get-mapped (λ (x : Receiver). x.statement) s.receivers.now has.0 e listed in
          none r.0 (has.0, r.1) (subst (λ (x : EventStatement). IsAnswered p q (receiver_node x) a) (sym r.2) answered)

  -- nor where the protocol doesn't speak of its objects
  pub grows_untracked : (a : Site) (findings : List Finding) → (IsTrackedSite p k a → ⊥) → GrowsBy (IsKeptBefore p) (IsFindingOf p k q a) findings findings
  grows_untracked a findings none = grows_none (IsKeptBefore p) findings (λ f h. none (subst (λ (b : Site). IsTrackedSite p k b) h.1 h.0.tracked))

  module _ (number : ℕ) (a : Site) (there : IsSiteAt s number a) where
    -- at the places where the site is held there are the receivers that may hold objects of it
    pub held_at : (i : ℕ) → Has (found_at eqb s.held.now number) i → (r : Receiver) × (slice_get s.receivers.now i ≡ Some r) × IsAnswered p q (receiver_node r.statement) a
    held_at i has =
        let is = ((posed.held number a there).each i).0 has in
        let r = slice_get-mapped (λ (x : Receiver). x.node) s.receivers.now i is.number is.here in
        let node = posed.receivers.numbered r.0 (i, r.1) in
        let read = subst (λ (n : ℕ). slice_get s.given.demand.now.nodes n ≡ Some is.node) (sym r.2) is.there in
        let same : is.node ≡ receiver_node r.0.statement = cc in
        (r.0, r.1, subst (λ (n : Node). IsAnswered p q n a) same is.answered)

    pub at_held : (i : ℕ) (r : Receiver) → slice_get s.receivers.now i ≡ Some r → IsAnswered p q (receiver_node r.statement) a → Has (found_at eqb s.held.now number) i
    at_held i r at answered =
        ((posed.held number a there).each i).1 (record {
          number = r.node;
          here = at_map (λ (x : Receiver). x.node) s.receivers.now i r at;
          node = receiver_node r.statement;
          there = posed.receivers.numbered r (i, at);
          answered = answered;
        })

    -- and they are those of the event statements of which the receiver may hold some
    pub held_among : AreHeldAmong p q a posed.statements (found_at eqb s.held.now number)
    held_among i = (
      (λ has. let r = held_at i has in (r.0.statement, at_statement i r.0 r.1, r.2)),
      (λ h.
          let listed : slice_get (map (λ (x : Receiver). x.statement) s.receivers.now) i ≡ Some h.0 = subst (λ (ss : List EventStatement). slice_get ss i ≡ Some h.0) (sym posed.receivers.in_order) h.1 in
          let r = slice_get-mapped (λ (x : Receiver). x.statement) s.receivers.now i h.0 listed in
          at_held i r.0 r.1 (subst (λ (x : EventStatement). IsAnswered p q (receiver_node x) a) (sym r.2) h.2)),
    )

  module _ (a : Site) (r : Receiver) (has : Has s.receivers.now r) where
    -- the value of a receiver that may hold one tells the findings there
    pub grows_barred : (b : Site) (value : Rel) (old new : List Finding) → b ≡ a → IsTrackedSite p k a → IsAnswered p q (receiver_node r.statement) a
        → ((i : ℕ) → i < 16 → Relates value 0 i ↔ ((string : List Place) × Tracks p k q a (receiver_node r.statement) string i))
        → GrowsBy (IsKeptBefore p) (IsBarred k b r.statement value) old new → GrowsBy (IsKeptBefore p) (IsFindingAt p k q a r.statement) old new
    grows_barred b value old new same tracked answered leads grown =
        grows_same (IsKeptBefore p) (subst (λ (x : Site). GrowsBy (IsKeptBefore p) (IsBarred k x r.statement value) old new) same grown)
        (barred_at p k q a r.statement (is_event r has) tracked posed.events.form answered value leads)

-- where each site was searched for a blank list, its findings come behind none
pub found_each : (q : Asked) (s : Search) → IsPosed q s → (count : ℕ) (old new : List (Vec Finding)) → AreBlank count old → AreSearched s old new
    → (i : ℕ) (a : Site) (list : Vec Finding) → IsSiteAt s i a → slice_get new i ≡ Some list
    → GrowsBy (IsKeptBefore s.given.linked.now) (IsFindingOf s.given.linked.now s.protocol.now q a) [] list.items
found_each q s posed count old new blank done i a list there is =
    let was = became (λ number before after. AreFoundAt s number before.items after.items) 0 old new done.count done.each i list is in
    let at : 0 + i ≡ i = omega arith in
    let found : AreFoundAt s i was.0.items list.items = subst (λ (n : ℕ). AreFoundAt s n was.0.items list.items) at was.2 in
    subst (λ (xs : List Finding). GrowsBy (IsKeptBefore s.given.linked.now) (IsFindingOf s.given.linked.now s.protocol.now q a) xs list.items)
    (blank.none i was.0 was.1) (found q a posed there)
