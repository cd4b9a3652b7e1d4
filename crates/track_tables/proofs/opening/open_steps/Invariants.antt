use Rattle.std.proofs.Common.{take}
use Rattle.call_side.specs.Trails.{AreKept}
use Rattle.lists.specs.Lists.{Has}
use Rattle.post_star.specs.declared.bases.BaseStep.{BaseStep}
use Rattle.track_tables.proofs.opening.open_steps.Given as goal

abbrev pub invariant-loop-step : goal.invariant-loop-step
invariant-loop-step l = record {
  bases : AreKept l.initial.bases.keys l.bases.keys;
  marks : AreKept l.initial.marks.keys l.marks.keys;
  steps : (step : BaseStep) → Has (take l.step-index l.steps) step → Has l.marks.keys step.mark × Has l.bases.keys step.below;
}
