use Rattle.std.proofs.Common.{◌≡◌, ◌<◌, ℕ, List, Some, slice_get}
use Rattle.lists.specs.Lists.{Has}
use Rattle.post_star.specs.declared.bases.BaseStep.{BaseStep}
use Rattle.call_side.specs.Indexed.{AreHomes}
use Rattle.call_side.specs.Trails.{AreKept}
use Rattle.call_side.proofs.homes.add_all.Given as goal

abbrev pub invariant-loop-step : goal.invariant-loop-step
invariant-loop-step l = record {
  kept : AreKept l.initial.homes.bases.keys l.homes.bases.keys;
  there : (i : ℕ) (step : BaseStep) → i < l.step-index → slice_get l.steps i ≡ Some step → Has l.homes.bases.keys step.base;
  homes : (all : List BaseStep) (last below : ℕ) → slice_get l.initial.homes.bases.keys l.number ≡ Some below → ((step : BaseStep) → Has l.steps step → Has all step × (step.below ≡ below))
      → AreHomes all last l.initial.homes.bases.keys l.initial.homes.origins.items → AreHomes all last l.homes.bases.keys l.homes.origins.items;
}
