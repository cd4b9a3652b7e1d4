-- What is put into the tables of a site.
use Rattle.std.proofs.Common.{◌≡◌, ℕ, zero, suc, ◌<◌, Bool, true, false, true≢false, ◌↔◌, ◌⊎◌, List, [], ◌∷◌, ◌++◌, length, get_or, map, take, refl, sym, ap, ◌+◌, ◌∙◌, subst, inl, inr, ◌≤◌, append_assoc, eq-eqb, length-append, if◌then◌else◌, arith, IsTrue, Vec, Global}
use Rattle.std.specs.List.{flat_map, list_any}
use Rattle.std.proofs.lemmas.Bool.Decides.{eqb_tells}
use Rattle.std.proofs.lemmas.List.{append-nil, flat_map_more, take_more}
use Rattle.demand_set.proofs.Counts.{length-IsApart}
use Rattle.lists.proofs.Places.{Has-push}
use Rattle.link_laws.proofs.Lists.{map_at}
use Rattle.spds_tables.specs.declared.numbered.Jump.{Jump}
use Rattle.auto_table.specs.declared.rule.Rule.{Rule}
use Rattle.lists.specs.Lists.{Has, IsApart}
use Rattle.post_star.specs.declared.bases.BaseStep.{BaseStep}
use Rattle.post_star.specs.Derivations.{Leads}
use Rattle.post_star.specs.Jobs.{Job}
use Rattle.spds_tables.specs.declared.numbered.Met.{Met}
use Rattle.spds_tables.specs.declared.numbered.StartAt.{StartAt}
use Rattle.spds_tables.specs.declared.parts.Parts.{Parts}
use Rattle.spds_tables.specs.declared.tables.SiteTables.{SiteTables}
use Rattle.spds_tables.specs.Parts.{AreLedIn, call_start, candidates, field_start, pushes_for, pushes_of, pushes_over, start_rows, starts_at}
use Rattle.spds_tables.specs.Tables.{AreAdded, AreBuilt, AreBuiltWithin, AreOpenFor, AreSettled, IsAskedOf, IsCallJob, IsFieldJob, IsStoredTo, Opens, settled_of, settled_tables}
use Rattle.call_side.proofs.Lists.{has-read}
use Rattle.spds_tables.proofs.Questions.{has_one}
use Rattle.lists.proofs.Keys.{Has-list_any}
use Rattle.spds_tables.specs.contracts.numbered.StartAtPartialEq.TheImpl.{eq-value}
use Rattle.spds_tables.proofs.SameStart.{same, self}
use Rattle.weight_laws.specs.declared.reach.Reach.{Reach}
use Rattle.lists.proofs.Joined.{Has-left, Has-right}

-- no start
abbrev pub blank_job : List (Rule Reach) → List BaseStep → ℕ → Job Reach
blank_job rules steps last = record { steps = steps; last = last; rules = rules; starts = []; settled = true }

-- what stands in a row stands in the joined rows
has_row : (rows : List (List StartAt)) (i : ℕ) (s : StartAt) → Has (get_or rows i []) s → Has (flat_map (λ starts. starts) rows) s
has_row [] i s has = cc has.1
has_row (r ∷ rows) zero s has = Has-left r (flat_map (λ starts. starts) rows) s has
has_row (r ∷ rows) (suc i) s has = Has-right r (flat_map (λ starts. starts) rows) s (has_row rows i s has)

module _ (parts : Parts) (site : ℕ) where
  -- a field system with no meets
  pub fields_filled : AreLedIn parts → (old new : Job Reach) → old ≡ blank_job parts.fields.value.rules parts.fields.value.steps parts.fields.value.last
      → AreAdded [] (map (field_start parts.field_cells.items) (starts_at parts site)) old new → IsFieldJob parts site [] new
  fields_filled led old new e a = record {
    steps = a.steps ∙ ap (λ (j : Job Reach). j.steps) e ∙ led.field_steps;
    last = a.last ∙ ap (λ (j : Job Reach). j.last) e ∙ led.field_last;
    rules = a.rules_are ∙ append-nil old.rules ∙ ap (λ (j : Job Reach). j.rules) e ∙ sym (append-nil parts.fields.value.rules);
    starts = a.starts_are ∙ ap (λ (j : Job Reach). j.starts ++ map (field_start parts.field_cells.items) (starts_at parts site)) e;
  }

  -- a call system from the start nodes of the site
  pub calls_filled : AreLedIn parts → (old new : Job Reach) (begun : List StartAt) → old ≡ blank_job parts.calls.value.rules parts.calls.value.steps parts.calls.value.last
      → new.steps ≡ old.steps → new.last ≡ old.last → new.rules ≡ old.rules → new.starts ≡ map (call_start parts.call_cells.items) begun → IsCallJob parts begun new
  calls_filled led old new begun e steps last rules starts = record {
    steps = steps ∙ ap (λ (j : Job Reach). j.steps) e ∙ led.call_steps;
    last = last ∙ ap (λ (j : Job Reach). j.last) e ∙ led.call_last;
    rules = rules ∙ ap (λ (j : Job Reach). j.rules) e;
    starts = starts;
  }

  -- the start nodes of a site may be start nodes
  pub starts_among : (s : StartAt) → Has (starts_at parts site) s → Has (candidates parts) s
  starts_among s has = Has-left (flat_map (λ starts. starts) (start_rows parts)) (map (λ jump. jump.to) parts.jumps.items) s (has_row (start_rows parts) site s has)

  -- and are led
  pub starts_led : AreLedIn parts → (job : Job Reach) → job.steps ≡ parts.bases.steps → job.last ≡ parts.bases.last
      → (s : StartAt) → Has (candidates parts) s → (word : List ℕ) × Leads job.steps s.method word job.last
  starts_led led job steps last s has = rw (steps, last) (led.starts s has)

  -- more meets keep what opens
  pub opens_more : (few more : List Met) → ((m : Met) → Has few m → Has more m) → {s : StartAt} → Opens parts site few s → Opens parts site more s
  opens_more few more f (Opens.own has) = Opens.own has
  opens_more few more f (Opens.asked begun job is all (inl jump)) = Opens.asked begun job is (λ x has. opens_more few more f (all x has)) (inl jump)
  opens_more few more f (Opens.asked begun job is all (inr store)) =
      Opens.asked begun job is (λ x has. opens_more few more f (all x has))
      (inr (record { met = store.met; has = f store.met store.has; object = store.object; arrives = store.arrives; among = store.among }))

  -- a meet of the site was taken in
  rules_more : (mets : List Met) (m : Met) (rules : List (Rule Reach)) → rules ≡ parts.fields.value.rules ++ pushes_over parts site mets
      → rules ++ pushes_for parts site m ≡ parts.fields.value.rules ++ pushes_over parts site (mets ++ m ∷ [])
  rules_more mets m rules e =
      ap (λ (rs : List (Rule Reach)). rs ++ pushes_for parts site m) e ∙ flat_map_more (pushes_for parts site) parts.fields.value.rules mets m

  pub same_object : (m : Met) → m.object ≡ site → pushes_for parts site m ≡ pushes_of parts m
  same_object m e = ap (λ (b : Bool). if b then pushes_of parts m else []) (eq-eqb m.object site e)

  pub other_object : (m : Met) → (m.object ≡ site → ⊥) → pushes_for parts site m ≡ []
  other_object m n = elim (eqb_tells m.object site) [
    | inl h ↦ absurd (n h.1)
    | inr h ↦ ap (λ (b : Bool). if b then pushes_of parts m else []) h.0
  ]

  -- the site's own among one more
  own_taken : (mets own more : List Met) (m : Met) → m.object ≡ site → more ≡ own ++ m ∷ [] → ((x : Met) → Has own x ↔ (Has mets x × (x.object ≡ site)))
      → (x : Met) → Has more x ↔ (Has (mets ++ m ∷ []) x × (x.object ≡ site))
  own_taken mets own more m e is was x = subst (λ (xs : List Met). Has xs x ↔ (Has (mets ++ m ∷ []) x × (x.object ≡ site))) (sym is) (
    (λ has. elim ((Has-push own m x).0 has) [
      | inl a ↦ let h = (was x).0 a in ((Has-push mets m x).1 (inl h.0), h.1)
      | inr q ↦ ((Has-push mets m x).1 (inr q), ap (λ (y : Met). y.object) q ∙ e)
    ]),
    (λ h. (Has-push own m x).1 (elim ((Has-push mets m x).0 h.0) [ inl a ↦ inl ((was x).1 (a, h.1)) | inr q ↦ inr q ])),
  )

  own_passed : (mets own : List Met) (m : Met) → (m.object ≡ site → ⊥) → ((x : Met) → Has own x ↔ (Has mets x × (x.object ≡ site)))
      → (x : Met) → Has own x ↔ (Has (mets ++ m ∷ []) x × (x.object ≡ site))
  own_passed mets own m n was x = (
    (λ has. let h = (was x).0 has in ((Has-push mets m x).1 (inl h.0), h.1)),
    (λ h. elim ((Has-push mets m x).0 h.0) [ inl a ↦ (was x).1 (a, h.1) | inr q ↦ absurd (n (sym (ap (λ (y : Met). y.object) q) ∙ h.1)) ]),
  )

  -- what is asked for over the site's own meets is what is asked for over all
  pub asked_own : (mets own : List Met) (job : Job Reach) (s : StartAt) → ((x : Met) → Has own x ↔ (Has mets x × (x.object ≡ site)))
      → IsAskedOf parts site own job s ↔ IsAskedOf parts site mets job s
  asked_own mets own job s was = (
    (λ h. elim h [
      | inl j ↦ inl j
      | inr q ↦ inr (record { met = q.met; has = ((was q.met).0 q.has).0; object = q.object; arrives = q.arrives; among = q.among })
    ]),
    (λ h. elim h [
      | inl j ↦ inl j
      | inr q ↦ inr (record { met = q.met; has = (was q.met).1 (q.has, q.object); object = q.object; arrives = q.arrives; among = q.among })
    ]),
  )

  -- whether a call system is settled doesn't matter to what it asks for
  asked_settled : (mets : List Met) (job : Job Reach) (s : StartAt) → IsAskedOf parts site mets (settled_of job) s → IsAskedOf parts site mets job s
  asked_settled mets job s (inl j) = inl (record { jump = j.jump; has = j.has; to_is = j.to_is; arrives = j.arrives })
  asked_settled mets job s (inr q) = inr (record { met = q.met; has = q.has; object = q.object; arrives = q.arrives; among = q.among })

  -- no tables have come to the end where that isn't known
  pub undone : {P : Type 0} (b : Bool) → b ≡ false → IsTrue b → P
  undone b e h = absurd (true≢false (sym h ∙ e))

  -- start nodes that open over some meets open over more
  pub within_more : (mets few more : List Met) (t : SiteTables) → ((m : Met) → Has few m → Has more m) → AreBuiltWithin parts site mets few t → AreBuiltWithin parts site mets more t
  within_more mets few more t f b = record {
    fields = b.fields;
    calls = b.calls;
    opened = λ s has. opens_more few more f (b.opened s has);
    own = b.own;
    stored = b.stored;
    apart = b.apart;
    own_mets = b.own_mets;
    done = b.done;
  }

  -- the bases of a front are among those of the whole
  pub open_front : (few more all : List Met) → ((m : Met) → Has few m → Has more m) → AreOpenFor parts site more all → AreOpenFor parts site few all
  open_front few more all f opens m has = opens m (f m has)

  pub met_taken : (mets all : List Met) (m : Met) (t : SiteTables) (job : Job Reach) (own : Vec Met Global) → own.items ≡ t.mets.items ++ m ∷ [] → m.object ≡ site
      → AreAdded (pushes_of parts m) [] t.fields job → t.done ≡ false → ((s : StartAt) → Has (starts_at parts m.base) s → Has t.begun s)
      → AreBuiltWithin parts site mets all t → AreBuiltWithin parts site (mets ++ m ∷ []) all (record t { fields = job; mets = own })
  met_taken mets all m t job own is e a undone_yet begun b = record {
    fields = record {
      steps = a.steps ∙ b.fields.steps;
      last = a.last ∙ b.fields.last;
      rules = a.rules_are ∙ ap (λ (rs : List (Rule Reach)). t.fields.rules ++ rs) (sym (same_object m e)) ∙ rules_more mets m t.fields.rules b.fields.rules;
      starts = a.starts_are ∙ append-nil t.fields.starts ∙ b.fields.starts;
    };
    calls = b.calls;
    opened = b.opened;
    own = b.own;
    stored = λ x has s among. elim ((Has-push t.mets.items m x).0 (subst (λ (xs : List Met). Has xs x) is has)) [
      | inl old ↦ b.stored x old s among
      | inr new ↦ begun s (subst (λ (y : Met). Has (starts_at parts y.base) s) new among)
    ];
    apart = b.apart;
    own_mets = own_taken mets t.mets.items own.items m e is b.own_mets;
    done = undone t.done undone_yet;
  }

  pub met_passed : (mets all : List Met) (m : Met) (t : SiteTables) → (m.object ≡ site → ⊥) → AreBuiltWithin parts site mets all t
      → AreBuiltWithin parts site (mets ++ m ∷ []) all t
  met_passed mets all m t n b = record {
    fields = record {
      steps = b.fields.steps;
      last = b.fields.last;
      rules = sym (append-nil t.fields.rules) ∙ ap (λ (rs : List (Rule Reach)). t.fields.rules ++ rs) (sym (other_object m n)) ∙ rules_more mets m t.fields.rules b.fields.rules;
      starts = b.fields.starts;
    };
    calls = b.calls;
    opened = b.opened;
    own = b.own;
    stored = b.stored;
    apart = b.apart;
    own_mets = own_passed mets t.mets.items m n b.own_mets;
    done = b.done;
  }

  -- one more meet of a list was taken in
  pub caught_more : (first mets all : List Met) (i : ℕ) (d : Met) (old new : SiteTables) → i < length mets
      → ((some : List Met) → AreBuiltWithin parts site some all old → AreOpenFor parts site (get_or mets i d ∷ []) all
      → AreBuiltWithin parts site (some ++ get_or mets i d ∷ []) all new)
      → AreOpenFor parts site mets all → AreBuiltWithin parts site (first ++ take i mets) all old → AreBuiltWithin parts site (first ++ take (i + 1) mets) all new
  caught_more first mets all i d old new below takes opens built =
      let m = get_or mets i d in
      let front : first ++ take (i + 1) mets ≡ (first ++ take i mets) ++ m ∷ [] =
      ap (λ (xs : List Met). first ++ xs) (take_more mets i d below) ∙ sym (append_assoc first (take i mets) (m ∷ [])) in
      subst (λ (xs : List Met). AreBuiltWithin parts site xs all new) (sym front)
      (takes (first ++ take i mets) built (open_front (m ∷ []) mets all (λ x has. subst (Has mets) (sym (has_one m x has)) (has-read mets i d below)) opens))

  -- what opens is one of the nodes that may
  pub opens_among : (mets : List Met) {s : StartAt} → Opens parts site mets s → Has (candidates parts) s
  opens_among mets (Opens.own {s} has) = starts_among s has
  opens_among mets (Opens.asked {s} begun job is all (inl jump)) =
      subst (Has (candidates parts)) (sym jump.to_is)
      (Has-right (flat_map (λ starts. starts) (start_rows parts)) (map (λ j. j.to) parts.jumps.items) jump.jump.to
      (jump.has.0, map_at (λ (j : Jump). j.to) parts.jumps.items jump.has.0 jump.jump jump.has.1))
  opens_among mets (Opens.asked {s} begun job is all (inr store)) =
      Has-left (flat_map (λ starts. starts) (start_rows parts)) (map (λ j. j.to) parts.jumps.items) s (has_row (start_rows parts) store.met.base s store.among)

  -- so there are no more than these
  pub built_few : (mets : List Met) (t : SiteTables) → AreBuilt parts site mets t → length t.begun ≤ length (candidates parts)
  built_few mets t b = length-IsApart t.begun (candidates parts) b.apart (λ s has. opens_among mets (b.opened s has))

  -- what stores ask for is begun already
  pub stored_begun : (mets : List Met) (t : SiteTables) → AreBuilt parts site mets t → (s : StartAt) → IsStoredTo parts site mets t.calls s → Has t.begun s
  stored_begun mets t b s h = b.stored h.met ((b.own_mets h.met).1 (h.has, h.object)) s h.among

  -- settling changes neither rules nor starts
  pub settled_built : (mets : List Met) (t : SiteTables) → AreBuilt parts site mets t → AreBuilt parts site mets (settled_tables t)
  settled_built mets t b = record {
    fields = record { steps = b.fields.steps; last = b.fields.last; rules = b.fields.rules; starts = b.fields.starts };
    calls = record { steps = b.calls.steps; last = b.calls.last; rules = b.calls.rules; starts = b.calls.starts };
    opened = b.opened;
    own = b.own;
    stored = b.stored;
    apart = b.apart;
    own_mets = b.own_mets;
    done = λ h. let d = b.done h in record { fields = refl; calls = refl; closed = λ s asks. d.closed s (asked_settled t.mets.items t.calls s asks) };
  }

  -- tables that have come to the end
  pub done_settled : (mets : List Met) (t : SiteTables) → AreBuilt parts site mets t → IsTrue t.done → AreSettled parts site mets t
  done_settled mets t b h =
      let d = b.done h in
      record { built = b; fields = d.fields; calls = d.calls; closed = λ s asks. d.closed s ((asked_own mets t.mets.items t.calls s b.own_mets).1 asks) }

  -- and of which that is known from now on
  pub settled_done : (mets : List Met) (t : SiteTables) → AreSettled parts site mets t → AreSettled parts site mets (record t { done = true })
  settled_done mets t h = record {
    built = record {
      fields = h.built.fields;
      calls = h.built.calls;
      opened = h.built.opened;
      own = h.built.own;
      stored = h.built.stored;
      apart = h.built.apart;
      own_mets = h.built.own_mets;
      done = λ _. record {
        fields = h.fields;
        calls = h.calls;
        closed = λ s asks. h.closed s ((asked_own mets t.mets.items t.calls s h.built.own_mets).0 asks);
      };
    };
    fields = h.fields;
    calls = h.calls;
    closed = h.closed;
  }

  -- further start nodes
  pub begun_built : (mets all : List Met) (t : SiteTables) (job : Job Reach) (begun starts : List StartAt) → job.steps ≡ t.calls.steps → job.last ≡ t.calls.last
      → job.rules ≡ t.calls.rules → job.starts ≡ map (call_start parts.call_cells.items) begun → ((s : StartAt) → Has begun s ↔ (Has t.begun s ⊎ Has starts s))
      → (IsApart t.begun → IsApart begun) → AreBuiltWithin parts site mets all t → ((s : StartAt) → Has starts s → Opens parts site all s)
      → AreBuiltWithin parts site mets all (record t { calls = job; begun = begun; done = false })
  begun_built mets all t job begun starts steps last rules tied now apart b opens = record {
    fields = b.fields;
    calls = record { steps = steps ∙ b.calls.steps; last = last ∙ b.calls.last; rules = rules ∙ b.calls.rules; starts = tied };
    opened = λ s has. elim ((now s).0 has) [ inl a ↦ b.opened s a | inr x ↦ opens s x ];
    own = λ s has. (now s).1 (inl (b.own s has));
    stored = λ m has s among. (now s).1 (inl (b.stored m has s among));
    apart = apart b.apart;
    own_mets = b.own_mets;
    done = undone false refl;
  }

-- a list that an element was new to has grown
pub grown_longer : (old new behind : List StartAt) (s : StartAt) → new ≡ old ++ behind → Has new s → (Has old s → ⊥) → length old < length new
grown_longer old new [] s e has not = absurd (not (subst (λ (xs : List StartAt). Has xs s) (e ∙ append-nil old) has))
grown_longer old new (x ∷ behind) s e has not = let l = ap length e in omega (arith, l, length-append old (x ∷ behind))

-- a node is among others, or not
pub among_or : (xs : List StartAt) (s : StartAt) → Has xs s ⊎ (Has xs s → ⊥)
among_or xs s = by (list_any ((eq-value).it s) xs) refl
  where
    by : (b : Bool) → list_any ((eq-value).it s) xs ≡ b → Has xs s ⊎ (Has xs s → ⊥)
    by true e = inl ((Has-list_any (eq-value).it same self xs s true (sym e)).0 refl)
    by false e = inr (λ has. true≢false (sym ((Has-list_any (eq-value).it same self xs s false (sym e)).1 has)))
