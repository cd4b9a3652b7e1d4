-- Findings: at event statements, of sites of the demand, and as they are told.
use Rattle.std.proofs.Common.{◌≡◌, ◌↔◌, ℕ, ◌<◌, List, [], Some, None, Bool, All, length, map, refl, sym, ap, ◌∙◌, subst, arith}
use Rattle.lists.specs.Lists.{Has}
use Rattle.lists.proofs.Places.{slice_get-below}
use Rattle.step_rules.proofs.Determined.{code_one}
use Rattle.demand_set.specs.Demands.{DemandParts, IsDemandOf}
use Rattle.demand_set.proofs.Standing.{node_site}
use Rattle.link_laws.proofs.Lists.{all_at}
use Rattle.link_program.proofs.Found.{at_map}
use Rattle.link_rules.specs.declared.code.Code.{Code}
use Rattle.link_rules.specs.declared.code.Code.TheVariants as code
use Rattle.link_rules.specs.Linked.{LinkedProgram}
use Rattle.link_rules.specs.WellLinked.{IsInForm}
use Rattle.link_sites.specs.declared.place.Place.{Place}
use Rattle.link_sites.specs.declared.site.Site.{Site}
use Rattle.link_sites.specs.Places.{StandsAt}
use Rattle.spds_laws.proofs.Within.{fields_site}
use Rattle.spds_rules.specs.declared.node.Node.{Node}
use Rattle.spds_rules.specs.declared.node.Var.{Var}
use Rattle.spds_rules.specs.declared.node.Var.TheVariants.{Local}
use Rattle.spds_rules.specs.Answers.{IsAnswered}
use Rattle.spds_rules.specs.Demand.{Asked, SiteIn}
use Rattle.spds_rules.specs.Nodes.{at}
use Rattle.spds_rules.specs.Systems.{Meets}
use Rattle.site_events.specs.declared.event_statement.EventStatement.{EventStatement}
use Rattle.site_events.specs.EventStatements.{AreEventStatements, IsEventStatement, receiver_node}
use Rattle.track_rules.specs.Protocols.{IsProtocol, ProtocolParts}
use Rattle.track_runs.specs.Events.{IsEventCall}
use Rattle.track_systems.specs.Events.{IsEventOn, IsReceiver, IsTrackedSite, receiver_of}
use Rattle.track_systems.specs.Findings.{AreFindings, HasNoFinding, IsFinding}
use Rattle.track_systems.specs.Track.{Tracks}
use Rattle.track_verdicts.specs.declared.verdict.Finding.{Finding}
use Rattle.track_verdicts.specs.Found.{found_of}
use Rattle.track_verdicts.specs.Verdicts.{IsTellable}
use Rattle.weight_laws.specs.declared.rel.Rel.{Rel}
use Rattle.weight_laws.specs.Rel.{Relates}
use Rattle.type_track.specs.Findings.{IsBarred, IsOneFinding, IsFindingAt}
use Rattle.type_track.proofs.Stating.{tracks_below}

-- the event of a call is one of the protocol
event_below : (p : LinkedProgram) (k : ProtocolParts) (event : ℕ) (c : Code) → IsEventCall p k event c → event < length k.events
event_below p k event (code.Call to mode class key (Some receiver) args targets) is = slice_get-below k.events event is.methods.name is.named
event_below p k event (code.Call to mode class key None args targets) is = absurd is
event_below p k event _ is = absurd is

module _ (p : LinkedProgram) (k : ProtocolParts) where
  -- a call has one receiver
  pub receiver_one : (c : Place) (v w : Var) → IsReceiver p c v → IsReceiver p c w → v ≡ w
  receiver_one c v w one two =
      let same = code_one p c.method c.index one.1.code two.1.code one.1.at two.1.at in
      let first : receiver_of two.1.code ≡ Some one.0 = subst (λ (d : Code). receiver_of d ≡ Some one.0) same one.1.is_so in
      let second = two.1.is_so in
      let x : one.0 ≡ two.0 = cc in
      one.2 ∙ ap Local x ∙ sym two.2

  -- the statement of an event
  pub statement_of : (c : Place) (event : ℕ) (v : Var) → IsEventOn p k c event v
      → (s : EventStatement) × IsEventStatement p k s × (c ≡ s.place) × (event ≡ s.event) × (at c v ≡ receiver_node s)
  statement_of c event v on =
      let x = on.receiver.0 in (
        record { place = c; event = event; receiver = x },
        subst (λ (w : Var). IsEventOn p k c event w) on.receiver.2 on,
        refl,
        refl,
        ap (λ (w : Var). at c w) on.receiver.2,
      )

  module _ (q : Asked) where
    -- a finding by what it names
    moved : (a b : Site) (c d : Place) (e g i : ℕ) → a ≡ b → c ≡ d → e ≡ g → IsFinding p k q a c e i → IsFinding p k q b d g i
    moved a b c d e g i site place event is =
        subst (λ (x : Site). IsFinding p k q x d g i) site
        (subst (λ (x : Place). IsFinding p k q a x g i) place
        (subst (λ (x : ℕ). IsFinding p k q a c x i) event is))

    -- what a finding names is of the program and of the protocol
    pub site_in : (f : Finding) → IsOneFinding p k q f → SiteIn p q f.site
    site_in f is = fields_site p q (Meets p q) f.site is.answered.0

    pub is_tellable : IsInForm p → IsProtocol k → (f : Finding) → IsOneFinding p k q f → IsTellable p k f
    is_tellable form protocol f is =
        let start = site_in f is in
        let has = is.is_event.statement in
        record {
          site = node_site p form start.0 f.site start.1.0.0 start.1.0.1;
          place = subst (λ (raised : Bool). StandsAt p f.place.method f.place.index raised) (sym is.is_event.unraised)
              (record { code = has.code; at = has.at; is_so = tt });
          state = tracks_below p k q f.site protocol is.tracks;
          event = event_below p k f.event has.code has.is_so;
        }

    pub all_tellable : IsInForm p → IsProtocol k → (findings : List Finding) → AreFindings p k q (map found_of findings) → All (IsTellable p k) findings
    all_tellable form protocol findings are = all_at (IsTellable p k) findings (λ i f there.
        is_tellable form protocol f ((are.each (found_of f)).0 (i, at_map found_of findings i f there)))

    -- where the list is empty there is none
    pub none_found : (findings : List Finding) → findings ≡ [] → AreFindings p k q (map found_of findings) → HasNoFinding p k q
    none_found findings none are a place event i is =
        let has = (are.each (record { site = a; place = place; event = event; state = i })).1 is in
        let empty : map found_of findings ≡ [] = ap (map found_of) none in
        cc (has.1, empty)

    -- a finding is of a site of the demand
    pub site_has : (d : DemandParts) → IsDemandOf p q d → (f : Finding) → IsOneFinding p k q f → Has d.sites f.site
    site_has d demand f is = (demand.sites.each f.site).1 (site_in f is)

    module _ (a : Site) (s : EventStatement) (is_event : IsEventStatement p k s) where
      -- the findings at an event statement are the states to which the value of its receiver leads and in which no row allows the event
      module _ (tracked : IsTrackedSite p k a) (protocol : IsProtocol k) (answered : IsAnswered p q (receiver_node s) a) (value : Rel)
          (leads : (i : ℕ) → i < 16 → Relates value 0 i ↔ ((string : List Place) × Tracks p k q a (receiver_node s) string i)) where
        pub barred_at : (f : Finding) → IsFindingAt p k q a s f ↔ IsBarred k a s value f
        barred_at f = (to, from)
          where
            to : IsFindingAt p k q a s f → IsBarred k a s value f
            to h =
                let is = moved f.site a f.place s.place f.event s.event f.state h.site h.place h.event h.is_one in
                let same : is.receiver ≡ Local s.receiver = receiver_one s.place is.receiver (Local s.receiver) is.is_event.receiver is_event.receiver in
                let tracks : Tracks p k q a (receiver_node s) is.string f.state = subst (λ (v : Var). Tracks p k q a (at s.place v) is.string f.state) same is.tracks in
                let below = tracks_below p k q a protocol tracks in
                record {
                  site = h.site;
                  place = h.place;
                  event = h.event;
                  below = below;
                  leads = (leads f.state (omega (arith, below, protocol.few))).1 (is.string, tracks);
                  no_row = h.is_one.no_row;
                }

            from : IsBarred k a s value f → IsFindingAt p k q a s f
            from h =
                let tracks = (leads f.state (omega (arith, h.below, protocol.few))).0 h.leads in
                record {
                  is_one = moved a f.site s.place f.place s.event f.event f.state (sym h.site) (sym h.place) (sym h.event) (record {
                    tracked = tracked;
                    receiver = Local s.receiver;
                    is_event = is_event;
                    answered = answered;
                    string = tracks.0;
                    tracks = tracks.1;
                    no_row = λ to row. h.no_row to (subst (λ (e : ℕ). Has k.rows (record { from = f.state; event = e; to = to })) (sym h.event) row);
                  });
                  site = h.site;
                  place = h.place;
                  event = h.event;
                }

      -- the receiver may hold an object of the site
      pub answered_at : (f : Finding) → IsFindingAt p k q a s f → IsAnswered p q (receiver_node s) a
      answered_at f h =
          let is = moved f.site a f.place s.place f.event s.event f.state h.site h.place h.event h.is_one in
          let same : is.receiver ≡ Local s.receiver = receiver_one s.place is.receiver (Local s.receiver) is.is_event.receiver is_event.receiver in
          subst (λ (v : Var). IsAnswered p q (at s.place v) a) same is.answered

    -- each finding of a site is at some event statement
    pub found_at : (statements : List EventStatement) → AreEventStatements p k statements → (a : Site) (f : Finding) → IsOneFinding p k q f → f.site ≡ a
        → (s : EventStatement) × Has statements s × IsFindingAt p k q a s f
    found_at statements are a f is site =
        let s = statement_of f.place f.event is.receiver is.is_event in
        (s.0, (are.each s.0).1 s.1, record { is_one = is; site = site; place = s.2; event = s.3 })

    -- where no receiver may hold an object of the site it has none
    pub none_of : (statements : List EventStatement) → AreEventStatements p k statements → (a : Site)
        → ((s : EventStatement) → Has statements s → IsAnswered p q (receiver_node s) a → ⊥) → (f : Finding) → IsOneFinding p k q f → f.site ≡ a → ⊥
    none_of statements are a none f is site =
        let s = statement_of f.place f.event is.receiver is.is_event in
        let answered : IsAnswered p q (receiver_node s.0) f.site = subst (λ (n : Node). IsAnswered p q n f.site) s.4 is.answered in
        none s.0 ((are.each s.0).1 s.1) (subst (λ (b : Site). IsAnswered p q (receiver_node s.0) b) site answered)
