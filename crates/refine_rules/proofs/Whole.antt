-- Rounds keep runs.
use Rattle.std.proofs.Common.{◌≡◌, ℕ, List, Option, Some, None, length, refl, sym, ap, subst, inr}
use Rattle.lists.proofs.Places.{slice_get-push}
use Rattle.lists.specs.Lists.{Has}
use Rattle.jim_ast.specs.declared.syntax.Mode.{Mode}
use Rattle.jim_ast.specs.declared.syntax.Mode.TheVariants.{Special, Virtual, Interface, Static}
use Rattle.link_rules.specs.declared.code.Code.TheVariants as code
use Rattle.link_rules.specs.Keys.{HasReceiverByMode}
use Rattle.link_rules.specs.Linked.{LinkedProgram}
use Rattle.link_rules.specs.WellLinked.{FitsCode, FitsMethod, HasTarget, IsWellLinked}
use Rattle.link_laws.proofs.Lists.{at_all}
use Rattle.link_sites.specs.Places.{CodeAt}
use Rattle.narrow_covers.specs.SameRuns.{IsCoveredByKept}
use Rattle.narrow_covers.proofs.Whole.{narrowed_same_runs}
use Rattle.narrow_rules.specs.declared.kept.Kept.{Kept}
use Rattle.narrow_rules.specs.Narrowed.{IsKept, KeepsTarget, StaysIn}
use Rattle.narrow_rules.proofs.Well.{narrowed_well}
use Rattle.run_covers.specs.Covers.{IsCovered}
use Rattle.run_sound.specs.Frames.{node_of}
use Rattle.run_sound.specs.Simulated.{Holds}
use Rattle.run_sound.proofs.Simulating.{runs_agree, runs_answered}
use Rattle.spds_rules.specs.declared.node.Var.TheVariants.{Local}
use Rattle.spds_rules.specs.Answers.{IsAnswered}
use Rattle.spds_rules.specs.Demand.{Demand, about, target as target_itself}
use Rattle.spds_rules.specs.Nodes.{at as node_at}
use Rattle.std.specs.Option.{is_some}
use Rattle.step_rules.specs.declared.parts.Slot.TheVariants as slot
use Rattle.step_rules.specs.declared.parts.Value.TheVariants.{Object}
use Rattle.step_rules.specs.Slots.{local_of}
use Rattle.step_rules.specs.Effects.{Effect, calls}
use Rattle.step_rules.specs.Offers.{Offers}
use Rattle.step_rules.specs.Runs.{Run}
use Rattle.step_rules.specs.States.{Frame, HeapObject, Point, state_of}
use Rattle.refine_rules.specs.Refined.{AreToKeep, GoesByObject, IsRefined, IsRefinedBy, IsSelected, none, receiver_at, round}
use Rattle.refine_rules.specs.Laws.{AreKeptBy, RefinedKeepsRuns}
use Rattle.refine_rules.proofs.Dispatched.{IsDispatched, dispatched}

-- a call on an object has a receiver
has_receiver : (mode : Mode) (receiver : Option ℕ) → GoesByObject mode → HasReceiverByMode mode receiver → receiver ≡ None → ⊥
has_receiver Static receiver goes has e = elim goes [ ]
has_receiver Special receiver goes has e = elim goes [ ]
has_receiver Virtual receiver goes has e = has (ap (λ r. is_some r) e)
has_receiver Interface receiver goes has e = has (ap (λ r. is_some r) e)

module _ (p : LinkedProgram) (well : IsWellLinked p) (covered : IsCovered p) (budget : ℕ) (kept : List Kept) (are : AreToKeep p budget kept) where
  module _ (count : ℕ) (at : Point) (offered : List Effect) (frame : Frame) (run : Run p count (state_of at)) (offers : Offers p at offered)
      (has : Has offered (calls frame)) where
    -- the method that is entered is selected
    selected : (t : HasTarget p at.top.method at.top.index frame.method) → IsDispatched p at t.class t.key t.receiver frame
        → (x : ℕ) → t.receiver ≡ Some x → IsSelected p (receiver_at at.top.method at.top.index x) t.class t.key frame.method
    selected t d x is_x =
        let same : d.x ≡ x = let a = d.is_x in cc (a, is_x) in
        let n = receiver_at at.top.method at.top.index x in
        let node : node_of at.top (slot.Local x) ≡ n = ap (λ raised. node_at (record { method = at.top.method; index = at.top.index; raised = raised }) (Local x)) d.unraised in
        let holds : Holds (state_of at) (length at.below) at.top x d.o = record {
          there = slice_get-push at.below at.top;
          holds = subst (λ y. local_of at.top y ≡ Some (Object d.o)) same d.holds;
        } in
        let asked = subst (λ m. Demand p (about n) m) (sym node) (target_itself (0, refl)) in
        let found = runs_answered p well covered (about n) count (state_of at) (length at.below) at.top x d.o run holds asked in
        let object : found.0 ≡ d.object = let a = found.1 in let b = d.there in cc (a, b) in
        let answered = subst (λ m. IsAnswered p (about n) m found.0.site) node found.2 in
        record {
          site = d.object.site;
          answered = subst (λ (o : HeapObject). IsAnswered p (about n) n o.site) object answered;
          from = d.object.class;
          of_class = (runs_agree p well covered count (state_of at) run).classes d.object (d.o, d.there);
          below = d.below;
          row = d.finds.row;
          finds = d.finds.resolved;
          numbered = d.finds.numbered;
        }

    receives : (t : HasTarget p at.top.method at.top.index frame.method) → GoesByObject t.mode → t.receiver ≡ None → ⊥
    receives t goes =
        let m = at_all (FitsMethod p) p.methods at.top.method t.method well.form.methods t.there in
        let c = at_all (FitsCode p t.method) t.method.code at.top.index (code.Call t.to t.mode t.class t.key t.receiver t.args t.targets) m.codes t.call in
        has_receiver t.mode t.receiver goes c.3.0

    stays_by : (t : HasTarget p at.top.method at.top.index frame.method) → GoesByObject t.mode → IsKept kept at.top.method at.top.index frame.method
    stays_by t goes =
        let some = receives t goes in
        let here : CodeAt p at.top.method at.top.index (code.Call t.to t.mode t.class t.key t.receiver t.args t.targets) =
        record { method = t.method; there = t.there; here = t.call } in
        let d = dispatched p at frame t.to t.mode t.class t.key t.receiver t.args t.targets goes some here offered offers has in
        (are at.top.method at.top.index frame.method).1 (record { has = t; goes = goes; x = d.x; receiver = d.is_x; stays = inr (selected t d d.x d.is_x) })

    stays : (t : HasTarget p at.top.method at.top.index frame.method) → (mode : Mode) → t.mode ≡ mode
        → StaysIn mode (IsKept kept at.top.method at.top.index frame.method)
    stays t Static is = tt
    stays t Special is = tt
    stays t Virtual is = stays_by t (subst GoesByObject (sym is) tt)
    stays t Interface is = stays_by t (subst GoesByObject (sym is) tt)

    keeps : KeepsTarget p kept at.top.method at.top.index frame.method
    keeps =
        let t = covered count at offered frame run offers has in
        record { has = t; stays = stays t t.mode refl }

  -- the targets that stay cover the runs
  pub kept_cover : IsCoveredByKept p kept
  kept_cover count at offered frame run offers has = keeps count at offered frame run offers has

-- one round
one_round : (p q : LinkedProgram) (budget : ℕ) → IsWellLinked p → IsCovered p → IsRefined p budget q → AreKeptBy p q
one_round p q budget well covered r =
    let same = narrowed_same_runs p q r.0 well r.2 (kept_cover p well covered budget r.0 r.1) in
    record { well = narrowed_well p q r.0 well r.2; covered = same.1; runs = same.0 }

-- after others
both_rounds : (p q r : LinkedProgram) → AreKeptBy p q → AreKeptBy q r → AreKeptBy p r
both_rounds p q r a b = record {
  well = b.well;
  covered = b.covered;
  runs = record { to = λ count s run. b.runs.to count s (a.runs.to count s run); from = λ count s run. a.runs.from count s (b.runs.from count s run) };
}

-- any number of them
all_rounds : (p : LinkedProgram) (budget : ℕ) → IsWellLinked p → IsCovered p → {rounds : ℕ} {q : LinkedProgram} → IsRefinedBy budget p rounds q
    → AreKeptBy p q
all_rounds p budget well covered none =
    record { well = well; covered = covered; runs = record { to = λ count s run. run; from = λ count s run. run } }
all_rounds p budget well covered (round {q} {r} earlier last) =
    let kept = all_rounds p budget well covered earlier in
    both_rounds p q r kept (one_round q r budget kept.well kept.covered last)

-- the law
pub rounds_keep : RefinedKeepsRuns
rounds_keep p q budget rounds well covered by = all_rounds p budget well covered by
