-- Each step of the machine keeps what is known.
use Rattle.std.proofs.Common.{ℕ, Some, List, refl, sym, ap, ◌∙◌, subst, inl, inr}
use Rattle.lists.proofs.Joined.{last_one}
use Rattle.link_rules.specs.Linked.{LinkedProgram}
use Rattle.link_rules.specs.WellLinked.{IsWellLinked}
use Rattle.run_covers.specs.Covers.{IsCovered}
use Rattle.spds_rules.specs.Demand.{Asked}
use Rattle.step_rules.specs.Runs.{Run}
use Rattle.step_rules.specs.States.{Frame, Point, State, state_of}
use Rattle.step_rules.specs.Steps.{Step}
use Rattle.run_sound.proofs.Invariant.{AreFrames, IsKept, IsKeptAt, sites_of}
use Rattle.run_sound.proofs.Keeping.{kept_effect, kept_unwound}
use Rattle.run_sound.proofs.Lists.{not_empty}
use Rattle.run_sound.proofs.Table.{explained}

module _ (p : LinkedProgram) (q : Asked) (well : IsWellLinked p) where
  -- what a state keeps that goes on
  pub going_on : (point : Point) → IsKept p q (state_of point) → IsKeptAt p q point
  going_on point kept = record {
    frames = elim kept.frames [
      | inl none ↦ absurd (not_empty point.below point.top none)
      | inr some ↦
          let parts = last_one point.below some.0 point.top some.1 some.2 in
          subst (λ (top : Frame). AreFrames p q (sites_of point.heap) point.below top) (sym parts.1)
          (subst (λ (below : List Frame). AreFrames p q (sites_of point.heap) below some.1) (sym parts.0) some.3)
    ];
    memory = kept.memory;
  }

  -- each step
  pub kept_step : IsCovered p → (count choice : ℕ) (old new : State) → Run p count old → IsKept p q old → Step p old choice new → IsKept p q new
  kept_step covered count choice old new run kept step =
      let point = step.at in
      let run_there = subst (Run p count) step.stands run in
      let there = going_on point (subst (IsKept p q) step.stands kept) in
      elim (explained p well point there.frames.tracked.shaped point.top.raised refl step.offered step.offers step.effect (choice, step.chosen)) [
        | inl so ↦ kept_effect p q well point there so.0 step.effect so.1
            (λ frame is. covered count point step.offered frame run_there step.offers (choice, step.chosen ∙ ap Some is)) new step.becomes
        | inr so ↦ kept_unwound p q well point there so.0 step.effect so.1 new step.becomes
      ]
