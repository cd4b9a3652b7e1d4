-- Each state of a run keeps its frames formed, so settled formals hold what was passed.
use Rattle.std.proofs.Common.{◌≡◌, ℕ, ◌⊎◌, ◌++◌, Option, Some, None, false, List, [], ◌∷◌, length, slice_get, refl, sym, ap, ◌∙◌, subst, inl, inr, arith}
use Rattle.lists.proofs.Places.{slice_get-push}
use Rattle.lists.proofs.Joined.{last_one}
use Rattle.link_rules.specs.declared.code.Arg.{Arg}
use Rattle.link_rules.specs.declared.code.Code.{Code}
use Rattle.link_rules.specs.declared.code.Code.TheVariants as code
use Rattle.link_rules.specs.Linked.{LinkedProgram}
use Rattle.link_rules.specs.WellLinked.{HasTarget, IsWellLinked}
use Rattle.link_sites.specs.declared.place.Place.{Place}
use Rattle.link_sites.specs.Places.{CodeAt}
use Rattle.run_covers.specs.Covers.{IsCovered}
use Rattle.spds_rules.specs.declared.node.Var.TheVariants as var
use Rattle.spds_rules.specs.declared.reach.Reach.TheVariants.{Plain}
use Rattle.spds_rules.specs.Demand.{Asked}
use Rattle.spds_rules.specs.Edges.{Passes}
use Rattle.step_rules.specs.declared.parts.Slot.{Slot}
use Rattle.step_rules.specs.Effects.{Effect}
use Rattle.step_rules.specs.Runs.{Run, begins, steps}
use Rattle.step_rules.specs.States.{Frame, Point, State, new_frame, state_of}
use Rattle.run_sound.specs.Frames.{var_of}
use Rattle.run_sound.proofs.Invariant.{IsShaped}
use Rattle.run_sound.proofs.Lists.{not_empty}
use Rattle.run_sound.proofs.Simulating.{kept_run, tracked_at}
use Rattle.run_origins.specs.Origins.{Origins, ends, entry, way_back, within}
use Rattle.run_origins.proofs.Machine.{steps_originate}
use Rattle.track_sound.specs.Formals.{HoldsFormals}
use Rattle.track_sound.proofs.Formed.{Formed, IsFormal, IsPassing, above, bottom, called_by, formal_kept, formal_of, formed_on, held, same_passed}

module _ (p : LinkedProgram) where
  -- the frames of a state
  abbrev pub AreFormed : State → Type 0
  AreFormed s = (s.frames ≡ []) ⊎ ((below : List Frame) × (top : Frame) × (s.frames ≡ below ++ top ∷ []) × Formed p below top)

  -- a new frame stands at or before each identity
  formal_new : (g : Frame) → g.raised ≡ false → g.index ≡ 0 → IsFormal p g
  formal_new g unraised first m there w x k position at_k early = inl (unraised, omega (arith, first))

  -- the frames at a point
  formed_at : (at : Point) → AreFormed (state_of at) → Formed p at.below at.top
  formed_at at (inl none) = absurd (not_empty at.below at.top none)
  formed_at at (inr some) =
      let parts = last_one at.below some.0 at.top some.1 some.2 in
      subst (λ (top : Frame). Formed p at.below top) (sym parts.1) (subst (λ (below : List Frame). Formed p below some.1) (sym parts.0) some.3)

  module _ (q : Asked) (at : Point) (e : Effect) (new : State) (shapes : (number : ℕ) (f : Frame) → slice_get (state_of at).frames number ≡ Some f → IsShaped p f)
      (formed : Formed p at.below at.top) where
    -- the statement of the frame on top
    top_code : (c : Code) × CodeAt p at.top.method at.top.index c
    top_code =
        let shaped = shapes (length at.below) at.top (slice_get-push at.below at.top) in
        (shaped.code, record { method = shaped.method; there = shaped.there; here = shaped.here })

    -- whatever a step does
    pub formed_over : Origins p q.reach at e new → AreFormed new
    formed_over (within w) =
        let formal = formal_kept p at.top w.g w.goes_on top_code.0 top_code.1 (λ unraised. w.identity top_code.0 top_code.1 unraised) (formal_of p formed) in
        inr (at.below, w.g, w.frames, formed_on p formed w.g w.goes_on formal)
    formed_over (entry n) =
        let passing : IsPassing p at.top n.g = λ target x w value passes holds.
        let same = same_passed p at.top.method at.top.index n.g.method target n.target in
        n.passed x w value (same_both target n.target x w same.0 same.1 passes) holds in
        let formal = formal_new n.g (ap (λ (q : Place). q.raised) n.begins) (ap (λ (q : Place). q.index) n.begins) in
        inr (at.below ++ at.top ∷ [], n.g, n.frames, above formed passing formal)
      where
        same_both : (a b : HasTarget p at.top.method at.top.index n.g.method) (x : ℕ) (w : Slot) → a.receiver ≡ b.receiver → a.args ≡ b.args
            → Passes a.receiver a.args (var.Local x) (var_of w)
            → Passes b.receiver b.args (var.Local x) (var_of w)
        same_both a b x w r s passes =
            subst (λ (o : Option ℕ). Passes o b.args (var.Local x) (var_of w)) r (subst (λ (given : List Arg). Passes a.receiver given (var.Local x) (var_of w)) s passes)
    formed_over (way_back b) =
        let called = called_by p formed b.below b.caller b.under in
        let t = b.target in
        let call_there : CodeAt p b.caller.method b.caller.index (code.Call t.to t.mode t.class t.key t.receiver t.args t.targets) =
        record { method = t.method; there = t.there; here = t.call } in
        let formal = formal_kept p b.caller b.g b.goes_on (code.Call t.to t.mode t.class t.key t.receiver t.args t.targets) call_there (λ unraised. tt)
        (formal_of p called.formed) in
        inr (b.below, b.g, b.frames, formed_on p called.formed b.g b.goes_on formal)
    formed_over (ends none no_call) = inl none

  module _ (well : IsWellLinked p) (covered : IsCovered p) where
    abbrev q : Asked
    q = record { targets = []; reach = Plain }

    -- each state of a run
    pub formed_run : {count : ℕ} {s : State} → Run p count s → AreFormed s
    formed_run (begins {s} first) =
        inr ([], new_frame first.number first.root None [], ap (λ (t : State). t.frames) first.is_state, bottom (formal_new (new_frame first.number first.root None []) refl refl))
    formed_run (steps {count} {choice} {s} {next} run step) =
        let at = step.at in
        let run_there = subst (Run p count) step.stands run in
        let kept = kept_run p q well covered run_there in
        formed_over q at step.effect next (λ number f e. (tracked_at p q (state_of at) kept number f e).shaped)
        (formed_at at (subst AreFormed step.stands (formed_run run))) (steps_originate p well covered q.reach count choice s next run step).0

-- so settled formals hold what was passed
pub formals_held : (p : LinkedProgram) → IsWellLinked p → IsCovered p → HoldsFormals p
formals_held p well covered count s below caller g method x position value run frames there behind target passes settled holds =
    elim (formed_run p well covered run) [
      | inl none ↦ absurd (not_empty (below ++ caller ∷ []) g (sym frames ∙ none))
      | inr some ↦
          let parts = last_one (below ++ caller ∷ []) some.0 g some.1 (sym frames ∙ some.2) in
          let formed : Formed p (below ++ caller ∷ []) g = subst (λ (top : Frame). Formed p (below ++ caller ∷ []) top) (sym parts.1)
          (subst (λ (fs : List Frame). Formed p fs some.1) (sym parts.0) some.3) in
          held p below caller g (called_by p formed below caller refl) method there behind target x position value passes settled holds
    ]
