-- The events of a site, event by event.
use Rattle.std.proofs.Common.{◌≡◌, ℕ, ◌+◌, ◌<◌, ◌⊎◌, ◌↔◌, List, [], Some, length, slice_get, slice_index, inl, inr, refl, sym, subst, arith}
use Rattle.std.specs.Global.{Vec}
use Rattle.std.specs.Int.{bit_at}
use Rattle.std.proofs.lemmas.Bool.{cases_lt}
use Rattle.std.proofs.lemmas.Nat.Bits.{bit_at_above}
use Rattle.lists.specs.Lists.{Has}
use Rattle.lists.proofs.Places.{slice_get-below}
use Rattle.lists.proofs.Joined.{slice_get-mapped}
use Rattle.link_program.proofs.Found.{at_map}
use Rattle.link_rules.specs.declared.code.Code.{Code}
use Rattle.link_rules.specs.declared.code.Code.TheVariants.{Call}
use Rattle.link_rules.specs.Linked.{LinkedKey, LinkedMethod, LinkedProgram}
use Rattle.link_rules.specs.WellLinked.{HasTarget}
use Rattle.link_sites.specs.declared.place.Place.{Place}
use Rattle.link_sites.specs.declared.site.Site.{Site}
use Rattle.spds_rules.specs.declared.node.Var.{Var}
use Rattle.spds_rules.specs.Answers.{IsAnswered}
use Rattle.spds_rules.specs.Demand.{Asked}
use Rattle.spds_rules.specs.Nodes.{at}
use Rattle.track_rules.specs.Protocols.{HasRow, IsProtocol, ProtocolParts}
use Rattle.track_runs.specs.Events.{IsEventCall}
use Rattle.site_events.specs.Leading.{Leads}
use Rattle.site_events.specs.Leading as leading
use Rattle.track_systems.specs.Events.{Goes, IsEventOn}
use Rattle.track_systems.specs.Laws.{IsAmongSixteen}
use Rattle.track_systems.specs.Values.{IsWeight}
use Rattle.track_systems.specs.Weights.{Anywhere, IsInside, May, Sends, Within}
use Rattle.track_systems.specs.Weights as weights
use Rattle.track_systems.proofs.Few.{goes_few, sends_few}
use Rattle.weight_laws.proofs.Meaning.{meaning}
use Rattle.weight_laws.specs.declared.rel.Rel.{Rel}
use Rattle.weight_laws.specs.Rel.{Relates, rel_domain}
use Rattle.weight_laws.specs.RelLaws.{rel_lawful}
use Rattle.site_events.specs.declared.inner.Inner.{Inner}
use Rattle.site_events.specs.declared.site.SiteEvents.{SiteEvents}
use Rattle.site_events.specs.declared.statement.Statement.{Statement}
use Rattle.site_events.specs.Events.{MayBe}
use Rattle.site_events.specs.Inner.{HasTargetAmong}
use Rattle.site_events.specs.Sites.{AreEventsOf, AreRisen, Enters, IsInnerOf, LeadsInside}
use Rattle.site_events.specs.Statements.{before_it, statement_at}
use Rattle.site_events.specs.Tables.{AreMeant, AreRaised, HasOne, IsTold, Tabled}
use Rattle.site_events.proofs.Used.{place_before}

-- a relation leads among sixteen states
relates_low : (w : Rel) → rel_domain.IsMeant w → (i j : ℕ) → Relates w i j → j < 16
relates_low w meant i j r = elim (cases_lt j 16) [
  | inl low ↦ low
  | inr high ↦ let none : bit_at (slice_index w.0 i) j ≡ 0 = bit_at_above (slice_index w.0 i) 16 j (meant.fits i) high in cc
]

module _ (k : ProtocolParts) where
  -- the relation is what these events do
  abbrev pub IsSum : (ℕ → Type 0) → Rel → Type 0
  IsSum Which w = (i j : ℕ) → i < 16 → Relates w i j ↔ ((event : ℕ) × Which event × HasRow k i event j)

  -- the relation of each statement is what its events do
  pub record IsTableOf (Which : Statement → ℕ → Type 0) (t : Tabled) : Type 0 where
    pub meant : AreMeant t
    pub one : (s : Statement) → HasOne t s ↔ ((event : ℕ) × Which s event)
    pub each : (s : Statement) (w : Rel) → IsTold t s w → IsSum (Which s) w

  module _ (form : IsProtocol k) where
    pub row_below : (i event j : ℕ) → HasRow k i event j → j < 16
    row_below i event j has = let range = form.rows (record { from = i; event = event; to = j }) has in let few = form.few in let to = range.to in omega arith

    module _ (event : ℕ) (does : Rel) (is : IsWeight does (λ i j. HasRow k i event j)) where
      does_row : (i j : ℕ) → i < 16 → Relates does i j → HasRow k i event j
      does_row i j h r = (is.each i j h (relates_low does is.meant i j r)).0 r

      row_does : (i j : ℕ) → i < 16 → HasRow k i event j → Relates does i j
      row_does i j h row = (is.each i j h (row_below i event j row)).1 row

      -- with one event more
      pub table_more : (Which Other : Statement → ℕ → Type 0) (Now : Statement → Type 0) (old new : Tabled) → IsTableOf Which old → AreRaised old Now does new
          → ((s : Statement) (e : ℕ) → Other s e ↔ (Which s e ⊎ ((e ≡ event) × Now s))) → IsTableOf Other new
      table_more Which Other Now old new table raised other = record {
        meant = raised.meant table.meant;
        one = λ s. (
          (λ h. elim ((raised.one s).0 h) [
            | inl a ↦ let e = (table.one s).0 a in (e.0, (other s e.0).1 (inl e.1))
            | inr b ↦ (event, (other s event).1 (inr (refl, b)))
          ]),
          (λ h. (raised.one s).1 (elim ((other s h.0).0 h.1) [ inl a ↦ inl ((table.one s).1 (h.0, a)) | inr b ↦ inr b.1 ])),
        );
        each = λ s w told i j h. (
          (λ r. elim ((raised.each s w told i j h).0 r) [
            | inl a ↦ let e = (table.each s a.0 a.1 i j h).0 a.2 in (e.0, (other s e.0).1 (inl e.1), e.2)
            | inr b ↦ (event, (other s event).1 (inr (refl, b.0)), does_row i j h b.1)
          ]),
          (λ e. (raised.each s w told i j h).1 (elim ((other s e.0).0 e.1) [
            | inl a ↦ let u = (table.one s).1 (e.0, a) in inl (u.0, u.1, (table.each s u.0 u.1 i j h).1 (e.0, a, e.2))
            | inr b ↦ inr (b.1, row_does i j h (subst (λ (n : ℕ). HasRow k i n j) b.0 e.2))
          ])),
        );
      }

      pub sum_more : (Which Other : ℕ → Type 0) (Now : Type 0) (old new : Rel) → IsSum Which old → ((i j : ℕ) → i < 16 → Relates new i j ↔ (Relates old i j ⊎ (Now × Relates does i j)))
          → ((e : ℕ) → Other e ↔ (Which e ⊎ ((e ≡ event) × Now))) → IsSum Other new
      sum_more Which Other Now old new sum raised other i j h = (
        (λ r. elim ((raised i j h).0 r) [
          | inl a ↦ let e = (sum i j h).0 a in (e.0, (other e.0).1 (inl e.1), e.2)
          | inr b ↦ (event, (other event).1 (inr (refl, b.0)), does_row i j h b.1)
        ]),
        (λ e. (raised i j h).1 (elim ((other e.0).0 e.1) [
          | inl a ↦ inl ((sum i j h).1 (e.0, a, e.2))
          | inr b ↦ inr (b.1, row_does i j h (subst (λ (n : ℕ). HasRow k i n j) b.0 e.2))
        ])),
      )

module _ (p : LinkedProgram) (k : ProtocolParts) (q : Asked) (a : Site) where
  -- a run of the call may come to a statement that may be the event
  abbrev pub MayEnter : ℕ → Place → Type 0
  MayEnter event c = (x : Statement) × MayBe p k q a event x × IsInside p c x.method

  -- what the event does, with methods among which a call has a target exactly where a run of it may come to the event
  pub record IsInnerFor (event : ℕ) (x : Inner) : Type 0 where
    pub does : (i j : ℕ) → i < 16 → Relates x.does i j ↔ HasRow k i event j
    pub enters : (c : Place) → HasTargetAmong p x.loud.keys c ↔ MayEnter event c

  -- those of the first events
  pub record AreInner (done : ℕ) (inner : List Inner) : Type 0 where
    pub each : (x : Inner) → Has inner x → (event : ℕ) × (event < done) × IsInnerFor event x
    pub all : (event : ℕ) (s : Statement) → event < done → MayBe p k q a event s → (x : Inner) × Has inner x × IsInnerFor event x

  -- what the first events do
  pub record IsBuilt (done : ℕ) (e : SiteEvents) : Type 0 where
    pub own : IsTableOf k (λ s event. (event < done) × MayBe p k q a event s) e.own
    pub inner : AreInner done e.inner.items
    pub anywhere : IsSum k (λ event. (event < done) × ((s : Statement) × MayBe p k q a event s)) e.anywhere

  pub built_none : (e : SiteEvents) → ((s : Statement) → HasOne e.own s → ⊥) → e.inner.items ≡ [] → e.anywhere ≡ rel_domain.zero → IsBuilt 0 e
  built_none e own inner anywhere = record {
    own = record {
      meant = λ s w told. absurd (own s (w, told));
      one = λ s. ((λ h. absurd (own s h)), (λ h. let low = h.1.0 in absurd (omega arith)));
      each = λ s w told. absurd (own s (w, told));
    };
    inner = record {
      each = λ x h. let none = subst (λ (xs : List Inner). Has xs x) inner h in absurd (let no = none.1 in cc);
      all = λ event s low may. absurd (omega arith);
    };
    anywhere = λ i j h. (
      (λ r. absurd (meaning.zero i j h (subst (λ (x : Rel). Relates x i j) anywhere r))),
      (λ x. let low = x.1.0 in absurd (omega arith)),
    );
  }

  -- the events up to the next one
  next_event : (done event : ℕ) (Fact : ℕ → Type 0) → ((event < done + 1) × Fact event) ↔ (((event < done) × Fact event) ⊎ ((event ≡ done) × Fact done))
  next_event done event Fact = (
    (λ h. elim (cases_lt event done) [
      | inl low ↦ inl (low, h.1)
      | inr high ↦ let low = h.0 in let same : event ≡ done = omega (arith, low, high) in inr (same, subst Fact same h.1)
    ]),
    (λ h. elim h [
      | inl l ↦ (let low = l.0 in omega (arith, low), l.1)
      | inr r ↦ (let same = r.0 in omega (arith, same), subst Fact (sym r.0) r.1)
    ]),
  )

  with_fact : (done event : ℕ) (Fact : ℕ → Type 0) (Now : Type 0) → (Now ↔ Fact done) → ((event < done + 1) × Fact event) ↔ (((event < done) × Fact event) ⊎ ((event ≡ done) × Now))
  with_fact done event Fact Now same = (
    (λ h. elim ((next_event done event Fact).0 h) [ inl l ↦ inl l | inr r ↦ inr (r.0, same.1 r.1) ]),
    (λ h. (next_event done event Fact).1 (elim h [ inl l ↦ inl l | inr r ↦ inr (r.0, same.0 r.1) ])),
  )

  -- what a call that may enter methods with these statements may come to
  enters_may : (event : ℕ) (statements : List Statement) → ((s : Statement) → Has statements s ↔ MayBe p k q a event s) → (c : Place) → Enters p statements c ↔ MayEnter event c
  enters_may event statements are c = (
    (λ h.
        let x = slice_get-mapped (λ (t : Statement). t.method) statements h.2.0 h.0 h.2.1 in
        (x.0, (are x.0).0 (h.2.0, x.1), subst (λ (m : ℕ). IsInside p c m) (sym x.2) h.1)),
    (λ h.
        let has = (are h.0).1 h.1 in
        (h.0.method, h.2, (has.0, at_map (λ (t : Statement). t.method) statements has.0 h.0 has.1))),
  )

  module _ (done : ℕ) (does : Rel) (statements : List Statement) (form : IsProtocol k) (is : IsWeight does (λ i j. HasRow k i done j))
      (are : (s : Statement) → Has statements s ↔ MayBe p k q a done s) where
    -- what stands for the statements stands for the event
    inner_for : (x : Inner) → IsInnerOf p statements does x → IsInnerFor done x
    inner_for x of = record {
      does = λ i j h. (
        (λ r. does_row k form done does is i j h (subst (λ (w : Rel). Relates w i j) of.does_is r)),
        (λ row. subst (λ (w : Rel). Relates w i j) (sym of.does_is) (row_does k form done does is i j h row)),
      );
      enters = λ c. (
        (λ h. (enters_may done statements are c).0 ((of.enters c).0 h)),
        (λ h. (of.enters c).1 ((enters_may done statements are c).1 h)),
      );
    }

    inner_more : (old new : SiteEvents) → AreInner done old.inner.items → AreRisen p statements does old new → AreInner (done + 1) new.inner.items
    inner_more old new built risen = record {
      each = λ x h. elim (risen.each x h) [
        | inl was ↦ let e = built.each x was in let low = e.1 in (e.0, omega (arith, low), e.2)
        | inr of ↦ (done, omega arith, inner_for x of)
      ];
      all = λ event s low may. elim (cases_lt event done) [
        | inl before ↦ let x = built.all event s before may in (x.0, risen.kept x.0 x.1, x.2)
        | inr high ↦
            let same : event ≡ done = omega (arith, low, high) in
            let x = risen.inner s ((are s).1 (subst (λ (n : ℕ). MayBe p k q a n s) same may)) in
            (x.0, x.1, subst (λ (n : ℕ). IsInnerFor n x.0) (sym same) (inner_for x.0 x.2))
      ];
    }

    pub built_more : (old new : SiteEvents) → IsBuilt done old → AreRisen p statements does old new → IsBuilt (done + 1) new
    built_more old new built risen = record {
      own = table_more k form done does is _ _ (λ s. Has statements s) old.own new.own built.own risen.own (λ s e. with_fact done e (λ n. MayBe p k q a n s) (Has statements s) (are s));
      inner = inner_more old new built.inner risen;
      anywhere = sum_more k form done does is _ _ ((s : Statement) × Has statements s) old.anywhere new.anywhere built.anywhere risen.anywhere
          (λ e. with_fact done e (λ n. (s : Statement) × MayBe p k q a n s) ((s : Statement) × Has statements s)
          ((λ h. (h.0, (are h.0).0 h.1)), (λ h. (h.0, (are h.0).1 h.1))));
    }

  -- the code of an event statement is a call of its event, on its receiver
  one_call : (c : Code) (event other : ℕ) → IsProtocol k → IsEventCall p k event c → IsEventCall p k other c → other ≡ event
  one_call (Call to mode class key (Some receiver) args targets) event other form x y =
      let first = x.there in
      let second = y.there in
      let same : y.methods ≡ x.methods = cc in
      form.events other event x.methods.name (subst (λ (m : LinkedKey). slice_get k.events other ≡ Some m.name) same y.named) x.named
  one_call _ event other form x y = absurd x

  one_event : (c : Place) (event other : ℕ) (v w : Var) → IsProtocol k → IsEventOn p k c event v → IsEventOn p k c other w → other ≡ event
  one_event c event other v w form x y =
      let there = x.statement.at.there in
      let again = y.statement.at.there in
      let same : y.statement.at.method ≡ x.statement.at.method = cc in
      let here = x.statement.at.here in
      let also : slice_get x.statement.at.method.code c.index ≡ Some y.statement.code = subst (λ (m : LinkedMethod). slice_get m.code c.index ≡ Some y.statement.code) same y.statement.at.here in
      let code : y.statement.code ≡ x.statement.code = cc in
      one_call x.statement.code event other form x.statement.is_so (subst (λ (d : Code). IsEventCall p k other d) code y.statement.is_so)

  -- a statement that may be an event may be each that it is
  may_each : (c : Place) (i j : ℕ) → IsProtocol k → (may : May p k q a c) → (goes : Goes p k c i j) → MayBe p k q a goes.0 (statement_at c)
  may_each c i j form may goes =
      let same = one_event c may.event goes.0 may.receiver goes.1 form may.is_event goes.2 in
      let on : IsEventOn p k c goes.0 may.receiver = subst (λ (e : ℕ). IsEventOn p k c e may.receiver) (sym same) may.is_event in
      let be : c ≡ before_it (statement_at c) = sym (place_before c may.is_event.unraised) in
      (may.receiver, subst (λ (d : Place). IsEventOn p k d goes.0 may.receiver) be on, subst (λ (d : Place). IsAnswered p q (at d may.receiver) a) be may.answered)

  -- and may come there
  be_may : (event : ℕ) (s : Statement) → MayBe p k q a event s → May p k q a (before_it s)
  be_may event s may = record { event = event; receiver = may.0; is_event = may.1; answered = may.2 }

  -- its method is one of the program's
  pub may_below : (event : ℕ) (s : Statement) → MayBe p k q a event s → s.method < length p.methods
  may_below event s may = slice_get-below p.methods s.method may.1.statement.at.method may.1.statement.at.there

  event_below : (c : Code) (event : ℕ) → IsEventCall p k event c → event < length k.events
  event_below (Call to mode class key (Some receiver) args targets) event is = slice_get-below k.events event is.methods.name is.named
  event_below _ event is = absurd is

  on_below : (c : Place) (event : ℕ) (v : Var) → IsEventOn p k c event v → event < length k.events
  on_below c event v on = event_below on.statement.code event on.statement.is_so

  -- what events at some places do, as a closure
  module _ (sixteen : IsAmongSixteen k) (Where : Place → Type 0) (u : Rel) where
    abbrev pub IsStep : Type 0
    IsStep = (i j : ℕ) → i < 16 → Relates u i j ↔ ((c : Place) × Where c × May p k q a c × Goes p k c i j)

    leads_low : IsStep → (i j : ℕ) → i < 16 → Leads (Relates u) i j → j < 16
    leads_low step i j h leading.none = h
    leads_low step i j h (leading.more {j = from} way then) = let g = (step from j (leads_low step i from h way)).0 then in goes_few p k q a sixteen g.0 from j g.3

    sends_lead : IsStep → (i j : ℕ) → i < 16 → Sends p k q a Where i j → Leads (Relates u) i j
    sends_lead step i j h weights.none = leading.none
    sends_lead step i j h (weights.more {c} {j = from} way there may goes) =
        leading.more (sends_lead step i from h way) ((step from j (sends_few p k q a sixteen h way)).1 (c, there, may, goes))

    lead_sends : IsStep → (i j : ℕ) → i < 16 → Leads (Relates u) i j → Sends p k q a Where i j
    lead_sends step i j h leading.none = weights.none
    lead_sends step i j h (leading.more {j = from} way then) =
        let g = (step from j (leads_low step i from h way)).0 then in
        weights.more (lead_sends step i from h way) g.1 g.2 g.3

    pub closed_sends : IsStep → (w : Rel) → IsWeight w (Leads (Relates u)) → IsWeight w (Sends p k q a Where)
    closed_sends step w is = record {
      meant = is.meant;
      each = λ i j h g. ((λ r. lead_sends step i j h ((is.each i j h g).0 r)), (λ s. (is.each i j h g).1 (sends_lead step i j h s)));
    }

  -- the rows of a protocol lead among sixteen states
  among_sixteen : IsProtocol k → IsAmongSixteen k
  among_sixteen form row has = let r = form.rows row has in (let from = r.from in let few = form.few in omega arith, let to = r.to in let few = form.few in omega arith)

  pub built_all : (count : ℕ) (before e : SiteEvents) → IsProtocol k → count ≡ length k.events → IsBuilt count before → e.own ≡ before.own → e.inner ≡ before.inner
      → IsWeight e.anywhere (Leads (Relates before.anywhere)) → AreEventsOf p k q a e
  built_all count before e form all built same inner anywhere = record {
    sixteen = among_sixteen form;
    may = λ c may. subst (λ (t : Tabled). HasOne t (statement_at c)) (sym same) ((built.own.one (statement_at c)).1 (may.event, (low c may.event may.receiver may.is_event, be c may)));
    own = λ s w told. own_at s w (subst (λ (t : Tabled). IsTold t s w) same told);
    inside = λ c i j h. subst (λ (xs : Vec Inner). LeadsInside p xs.items c i j ↔ ((d : Place) × Within p c d × May p k q a d × Goes p k d i j)) (sym inner) (inside_at c i j h);
    anywhere = closed_sends (among_sixteen form) Anywhere before.anywhere any_step e.anywhere anywhere;
  }
    where
      low : (c : Place) (event : ℕ) (v : Var) → IsEventOn p k c event v → event < count
      low c event v on = let below = on_below c event v on in omega (arith, below, all)

      be : (c : Place) (may : May p k q a c) → MayBe p k q a may.event (statement_at c)
      be c may =
          let same_place : c ≡ before_it (statement_at c) = sym (place_before c may.is_event.unraised) in (
            may.receiver,
            subst (λ (d : Place). IsEventOn p k d may.event may.receiver) same_place may.is_event,
            subst (λ (d : Place). IsAnswered p q (at d may.receiver) a) same_place may.answered,
          )

      own_at : (s : Statement) (w : Rel) → IsTold before.own s w → May p k q a (before_it s) × IsWeight w (Goes p k (before_it s))
      own_at s w told =
          let one = (built.own.one s).0 (w, told) in
          let may = be_may one.0 s one.1.1 in (
            may,
            record {
              meant = built.own.meant s w told;
              each = λ i j h g. (
                (λ r. let x = (built.own.each s w told i j h).0 r in (x.0, x.1.1.0, x.1.1.1, x.2)),
                (λ goes. (built.own.each s w told i j h).1 (goes.0, (low (before_it s) goes.0 goes.1 goes.2, may_each (before_it s) i j form may goes), goes.3)),
              );
            },
          )

      inside_at : (c : Place) (i j : ℕ) → i < 16 → LeadsInside p before.inner.items c i j ↔ ((d : Place) × Within p c d × May p k q a d × Goes p k d i j)
      inside_at c i j h = (
        (λ r.
            let x = built.inner.each r.0 r.1 in
            let m = (x.2.enters c).0 r.2 in
            (before_it m.0, m.2, be_may x.0 m.0 m.1, (x.0, m.1.0, m.1.1, (x.2.does i j h).0 r.3))),
        (λ g.
            let goes = g.3 in
            let may = may_each g.0 i j form g.2 goes in
            let x = built.inner.all goes.0 (statement_at g.0) (low g.0 goes.0 goes.1 goes.2) may in
            (x.0, x.1, (x.2.enters c).1 (statement_at g.0, may, g.1), (x.2.does i j h).1 goes.3)),
      )

      any_step : IsStep (among_sixteen form) Anywhere before.anywhere
      any_step i j h = (
        (λ r. let x = (built.anywhere i j h).0 r in let m = x.1.1 in (before_it m.0, tt, be_may x.0 m.0 m.1, (x.0, m.1.0, m.1.1, x.2))),
        (λ g. let goes = g.3 in (built.anywhere i j h).1 (goes.0, (low g.0 goes.0 goes.1 goes.2, (statement_at g.0, may_each g.0 i j form g.2 goes)), goes.3)),
      )
