-- The program that is left has the same runs.
use Rattle.std.proofs.Common.{◌≡◌, ℕ, zero, suc, ◌+◌, ◌<◌, List, [], ◌∷◌, false, Option, Some, None, length, slice_get, refl, sym, ap, ◌∙◌, subst, inl, inr, arith}
use Rattle.lists.proofs.Places.{slice_get-push}
use Rattle.lists.specs.Lists.{Has}
use Rattle.link_rules.specs.declared.code.Code.{Code}
use Rattle.link_rules.specs.declared.code.Code.TheVariants as code
use Rattle.link_rules.specs.Linked.{LinkedMethod, LinkedProgram}
use Rattle.link_rules.specs.WellLinked.{IsRoot}
use Rattle.link_sites.specs.declared.site.Site.TheVariants as site
use Rattle.link_sites.specs.Places.{CodeAt}
use Rattle.narrow_rules.specs.declared.kept.Kept.{Kept}
use Rattle.narrow_rules.specs.Narrowed.{GoesOn, IsNarrowed, IsNarrowedCode, IsNarrowedMethod, IsReachedBy, root, called}
use Rattle.narrow_rules.proofs.Bodies.{code_after, code_before}
use Rattle.narrow_rules.proofs.Well.{goes_on, method_before, over, target_after, with_statements}
use Rattle.run_covers.specs.Covers.{IsCovered}
use Rattle.step_rules.specs.declared.parts.Value.{Value}
use Rattle.step_rules.specs.Effects.{Effect, calls}
use Rattle.step_rules.specs.Effects as effect
use Rattle.step_rules.specs.Offers.{Finds, Offers, OffersBy, Row}
use Rattle.step_rules.specs.Runs.{IsFirstState, Run, begins, steps, first_state}
use Rattle.step_rules.specs.States.{Frame, Point, State, new_frame, state_of, under}
use Rattle.step_rules.specs.Steps.{Becomes, ReceivesAt}
use Rattle.narrow_covers.specs.SameRuns.{HaveSameRuns, IsCoveredByKept, NarrowedHasSameRuns}
use Rattle.narrow_covers.proofs.Alike.{AreAlike, IsSameCode, code_moves, fact_moves, received_same, row_same}
use Rattle.narrow_covers.proofs.Inner.{nests_within}
use Rattle.narrow_covers.proofs.Rows.{AllLead, offers_move}
use Rattle.narrow_covers.proofs.Staying.{AllStay, IsStaying, becomes_stays, constant_sites, joined_sites, top_stays, under_stays}

-- a statement that is left is the same but for its targets
narrowed_same : (kept : List Kept) (number index : ℕ) (c d : Code) → IsNarrowedCode kept number index c d → IsSameCode c d
narrowed_same kept number index (code.Call to mode class key receiver args targets) d n = (n.0, n.2)
narrowed_same kept number index c d n = n

same_narrowed : (kept : List Kept) (number index : ℕ) (c d : Code) → IsNarrowedCode kept number index c d → IsSameCode d c
same_narrowed kept number index (code.Call to mode class key receiver args targets) d n =
    subst (λ e. IsSameCode e (code.Call to mode class key receiver args targets)) (sym n.2) (targets, refl)
same_narrowed kept number index c d n = subst (λ e. IsSameCode e c) (sym n) refl

-- a frame of a method goes by its locals alone
frame_same : (number : ℕ) (one two : LinkedMethod) (this : Option Value) (values : List Value) → two.locals ≡ one.locals
    → new_frame number one this values ≡ new_frame number two this values
frame_same number one two this values e = ap (λ (locals : List (List ℕ)). new_frame number (record one { locals = locals }) this values) (sym e)

-- a step leads to the same where callers stay
becomes_moves : (Stays : ℕ → Type 0) (p : LinkedProgram) (ms : List LinkedMethod) → AreAlike Stays p ms → (at : Point) → AllStay Stays at.below
    → (e : Effect) (new : State) → Becomes p at e new → Becomes (over p ms) at e new
becomes_moves Stays p ms alike at below (effect.returns value) new h = elim h [
  | inl last ↦ inl last
  | inr caller ↦
      let stays = subst (AllStay Stays) caller.2 below (length caller.0) caller.1 (slice_get-push caller.0 caller.1) in
      inr (
        caller.0,
        caller.1,
        caller.2,
        fact_moves Stays p ms alike caller.1.method caller.1.index (λ c. ReceivesAt c value (under caller.0 caller.1 at) new)
            (received_same value (under caller.0 caller.1 at) new) stays caller.3,
      )
]
becomes_moves Stays p ms alike at below e new h = h

module _ (p : LinkedProgram) (ms : List LinkedMethod) (kept : List Kept) (n : IsNarrowed p kept (over p ms)) (covers : IsCoveredByKept p kept) where
  -- what is still reached
  abbrev Reached : ℕ → Type 0
  Reached = IsReachedBy p kept n.root

  alike_to : AreAlike Reached p ms
  alike_to number reached old there =
      let m = goes_on p ms kept n number reached old there in (
        m.0,
        m.1,
        record {
          locals = ap (λ (x : LinkedMethod). x.locals) m.2.same;
          catches = m.3.catches;
          as_many = sym m.3.code.as_many;
          codes = λ index c e.
              let d = code_after kept number old.code m.0.code m.3.code index c e in
              (d.0, d.1, narrowed_same kept number index c d.0 d.2);
        },
      )

  -- a method of which one is left that is reached
  goes_back : (number : ℕ) → Reached number → (new : LinkedMethod) → slice_get ms number ≡ Some new
      → (old : LinkedMethod) × (slice_get p.methods number ≡ Some old) × IsNarrowedMethod p kept n.root number old new × GoesOn p kept n.root number old new
  goes_back number reached new there =
      let m = method_before p ms kept n number new there in
      elim m.2.becomes [ inl goes ↦ (m.0, m.1, m.2, goes) | inr lost ↦ absurd (lost.unreached reached) ]

  alike_back : AreAlike Reached (over p ms) p.methods
  alike_back number reached new there =
      let m = goes_back number reached new there in (
        m.0,
        m.1,
        record {
          locals = sym (ap (λ (x : LinkedMethod). x.locals) m.2.same);
          catches = sym m.3.catches;
          as_many = m.3.code.as_many;
          codes = λ index d e.
              let c = code_before kept number m.0.code new.code m.3.code index d e in
              (c.0, c.1, same_narrowed kept number index c.0 d c.2);
        },
      )

  -- what look-up finds in the first program, where it stays, is found in the second
  finds_to : (from key number : ℕ) (m : LinkedMethod) → Reached number → Finds p from key number m
      → (new : LinkedMethod) × Finds (over p ms) from key number new × (new.locals ≡ m.locals)
  finds_to from key number m reached f =
      let new = alike_to number reached m f.there in (
        new.0,
        record {
          row = f.row;
          resolved = f.resolved;
          numbered = f.numbered;
          there = new.1;
          has_statements = subst (λ k. 0 < k) (sym new.2.as_many) f.has_statements;
        },
        new.2.locals,
      )

  -- and what it finds in the second is found in the first
  finds_back : (from key number : ℕ) (m : LinkedMethod) → Finds (over p ms) from key number m
      → (old : LinkedMethod) × Finds p from key number old × (old.locals ≡ m.locals)
  finds_back from key number m f =
      let old = alike_back number (with_statements p ms kept n number m f.there f.has_statements) m f.there in (
        old.0,
        record {
          row = f.row;
          resolved = f.resolved;
          numbered = f.numbered;
          there = old.1;
          has_statements = subst (λ k. 0 < k) (sym old.2.as_many) f.has_statements;
        },
        old.2.locals,
      )

  module _ (count : ℕ) (at : Point) (run : Run p count (state_of at)) (st : IsStaying Reached (state_of at)) where
    -- a method that is entered stays
    entered : (offered : List Effect) (frame : Frame) → Offers p at offered → Has offered (calls frame) → Reached frame.method
    entered offered frame offers has = called (top_stays Reached at st) (covers count at offered frame run offers has)

    -- what an unraised statement may do
    offers_row : (c : Code) (offered : List Effect) → at.top.raised ≡ false → CodeAt p at.top.method at.top.index c → Row p at c offered → Offers p at offered
    offers_row c offered unraised here h =
        subst (λ raised. OffersBy raised p at offered) (sym unraised) (record { code = c; at = here; is_so = h })

    lead_to : AllLead Reached p ms alike_to alike_back at st.sites (top_stays Reached at st)
    lead_to to mode class key receiver args targets unraised here from this values offered g h e = elim e [
      | inl f ↦
          let offers = offers_row (code.Call to mode class key receiver args targets) offered unraised here (g offered (inl f)) in
          let has : slice_get offered 0 ≡ Some (calls (new_frame f.0 f.1 this values)) = ap (λ es. slice_get es 0) f.3 in
          let new = finds_to from key f.0 f.1 (entered offered (new_frame f.0 f.1 this values) offers (0, has)) f.2 in
          h offered (inl (f.0, new.0, new.1, f.3 ∙ ap (λ frame. calls frame ∷ []) (frame_same f.0 f.1 new.0 this values new.2)))
      | inr none ↦ h offered (inr (λ number m f. let old = finds_back from key number m f in none.0 number old.0 old.1, none.1))
    ]

    lead_back : AllLead Reached (over p ms) p.methods alike_back alike_to at st.sites (top_stays Reached at st)
    lead_back to mode class key receiver args targets unraised here from this values offered g h e = elim e [
      | inl f ↦
          let old = finds_back from key f.0 f.1 f.2 in
          h offered (inl (f.0, old.0, old.1, f.3 ∙ ap (λ frame. calls frame ∷ []) (frame_same f.0 f.1 old.0 this values old.2)))
      | inr none ↦ h offered (inr (
        λ number m f.
            let call = code.Call to mode class key receiver args targets in
            let other = calls (new_frame number m this values) ∷ [] in
            let d = code_moves Reached (over p ms) p.methods alike_back at.top.method at.top.index call (top_stays Reached at st) here in
            let offers = offers_row d.0 other unraised d.1 (row_same p at other call d.0 d.2 (h other (inl (number, m, f, refl)))) in
            let new = finds_to from key number m (entered other (new_frame number m this values) offers (0, refl)) f in
            none.0 number new.0 new.1,
        none.1,
      ))
    ]

    offers_to : (offered : List Effect) → Offers p at offered → Offers (over p ms) at offered
    offers_to = offers_move Reached p ms alike_to alike_back at st.sites (top_stays Reached at st) lead_to

    offers_back : (offered : List Effect) → Offers (over p ms) at offered → Offers p at offered
    offers_back = offers_move Reached (over p ms) p.methods alike_back alike_to at st.sites (top_stays Reached at st) lead_back

    -- a step leads to a state of what stays
    steps_stay : (offered : List Effect) (choice : ℕ) (e : Effect) (new : State) → Offers p at offered → slice_get offered choice ≡ Some e
        → Becomes p at e new → IsStaying Reached new
    steps_stay offered choice e new offers chosen becomes =
        becomes_stays Reached p at st e new (nests_within p at offered e offers (choice, chosen))
        (λ frame is. entered offered frame offers (choice, chosen ∙ ap Some is)) becomes

  -- the root of either is that of the other
  root_number : (number : ℕ) → number + 1 ≡ length p.methods → number ≡ n.root
  root_number number last = let e = n.last in omega (arith, last, e)

  reached_root : (number : ℕ) → number + 1 ≡ length p.methods → Reached number
  reached_root number last = subst Reached (sym (root_number number last)) root

  root_to : (number : ℕ) (old : LinkedMethod) → IsRoot p number old → (new : LinkedMethod) × IsRoot (over p ms) number new × (new.locals ≡ old.locals)
  root_to number old r =
      let m = goes_on p ms kept n number (reached_root number r.last) old r.there in (
        m.0,
        record {
          last = r.last ∙ n.as_many;
          there = m.1;
          has_statements = subst (λ k. 0 < k) m.3.code.as_many r.has_statements;
          no_params = ap (λ (x : LinkedMethod). x.params) m.2.same ∙ r.no_params;
          no_receiver = ap (λ (x : LinkedMethod). x.has_this) m.2.same ∙ r.no_receiver;
        },
        ap (λ (x : LinkedMethod). x.locals) m.2.same,
      )

  root_back : (number : ℕ) (new : LinkedMethod) → IsRoot (over p ms) number new → (old : LinkedMethod) × IsRoot p number old × (old.locals ≡ new.locals)
  root_back number new r =
      let last = r.last ∙ sym n.as_many in
      let m = goes_back number (reached_root number last) new r.there in (
        m.0,
        record {
          last = last;
          there = m.1;
          has_statements = subst (λ k. 0 < k) (sym m.3.code.as_many) r.has_statements;
          no_params = sym (ap (λ (x : LinkedMethod). x.params) m.2.same) ∙ r.no_params;
          no_receiver = sym (ap (λ (x : LinkedMethod). x.has_this) m.2.same) ∙ r.no_receiver;
        },
        sym (ap (λ (x : LinkedMethod). x.locals) m.2.same),
      )

  first_same : (number string class : ℕ) (one two : LinkedMethod) → two.locals ≡ one.locals
      → first_state p number one string class ≡ first_state p number two string class
  first_same number string class one two e =
      ap (λ (frame : Frame). record (first_state p number one string class) { frames = frame ∷ [] }) (frame_same number one two None [] e)

  first_to : (s : State) → IsFirstState p s → IsFirstState (over p ms) s
  first_to s f =
      let m = root_to f.number f.root f.is_root in
      record {
        number = f.number;
        root = m.0;
        is_root = m.1;
        string = f.string;
        is_string = f.is_string;
        class = f.class;
        is_class = f.is_class;
        is_state = f.is_state ∙ first_same f.number f.string f.class f.root m.0 m.2;
      }

  first_back : (s : State) → IsFirstState (over p ms) s → IsFirstState p s
  first_back s f =
      let m = root_back f.number f.root f.is_root in
      record {
        number = f.number;
        root = m.0;
        is_root = m.1;
        string = f.string;
        is_string = f.is_string;
        class = f.class;
        is_class = f.is_class;
        is_state = f.is_state ∙ first_same f.number f.string f.class f.root m.0 m.2;
      }

  first_stays : (s : State) → IsFirstState p s → IsStaying Reached s
  first_stays s f = subst (IsStaying Reached) (sym f.is_state) (record {
    frames = λ i frame e. root_frame i frame e;
    sites = joined_sites Reached _ _ (constant_sites Reached (λ i. site.Text i) f.string 0 (length p.texts) (λ i. tt))
        (constant_sites Reached (λ i. site.Class i) f.class 0 (length p.class_texts) (λ i. tt));
  }) where
    root_frame : (i : ℕ) (frame : Frame) → slice_get (new_frame f.number f.root None [] ∷ []) i ≡ Some frame → Reached frame.method
    root_frame zero frame e =
        let same : new_frame f.number f.root None [] ≡ frame = cc in
        subst (λ (x : Frame). Reached x.method) same (reached_root f.number f.is_root.last)
    root_frame (suc i) frame e = cc

  -- a run of the first is one of the second, and has what stays
  run_to : (count : ℕ) (s : State) → Run p count s → IsStaying Reached s × Run (over p ms) count s
  run_to count s (begins first) = (first_stays s first, begins (first_to s first))
  run_to count s (steps {count = before} {choice = choice} {s = old} run step) =
      let r = run_to before old run in
      let at_run = subst (Run p before) step.stands run in
      let st = subst (IsStaying Reached) step.stands r.0 in (
        steps_stay before step.at at_run st step.offered choice step.effect s step.offers step.chosen step.becomes,
        steps r.1 (record {
          at = step.at;
          stands = step.stands;
          offered = step.offered;
          offers = offers_to before step.at at_run st step.offered step.offers;
          effect = step.effect;
          chosen = step.chosen;
          becomes = becomes_moves Reached p ms alike_to step.at (under_stays Reached step.at st) step.effect s step.becomes;
        }),
      )

  -- a run of the second is one of the first
  run_back : (count : ℕ) (s : State) → Run (over p ms) count s → Run p count s
  run_back count s (begins first) = begins (first_back s first)
  run_back count s (steps {count = before} {choice = choice} {s = old} run step) =
      let r = run_back before old run in
      let at_run = subst (Run p before) step.stands r in
      let st = subst (IsStaying Reached) step.stands (run_to before old r).0 in
      steps r (record {
        at = step.at;
        stands = step.stands;
        offered = step.offered;
        offers = offers_back before step.at at_run st step.offered step.offers;
        effect = step.effect;
        chosen = step.chosen;
        becomes = becomes_moves Reached (over p ms) p.methods alike_back step.at (under_stays Reached step.at st) step.effect s step.becomes;
      })

  -- and the targets of the second cover them
  covered : IsCovered (over p ms)
  covered count at offered frame run offers has =
      let r = run_back count (state_of at) run in
      let st = (run_to count (state_of at) r).0 in
      target_after p ms kept n at.top.method at.top.index frame.method (top_stays Reached at st)
      (covers count at offered frame r (offers_back count at r st offered offers) has)

  over_same : HaveSameRuns p (over p ms) × IsCovered (over p ms)
  over_same = (record { to = λ count s run. (run_to count s run).1; from = run_back }, covered)

-- the law
pub narrowed_same_runs : NarrowedHasSameRuns
narrowed_same_runs p q kept well n covers = subst (λ r. HaveSameRuns p r × IsCovered r) (sym n.same)
    (over_same p q.methods kept (subst (IsNarrowed p kept) n.same n) covers)
