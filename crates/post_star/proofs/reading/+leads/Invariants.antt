use Rattle.std.proofs.Common.{◌≡◌, ℕ, ◌<◌, length, slice_get, Some}
use Rattle.post_star.specs.Derivations.{Leads, step_of}
use Rattle.post_star.proofs.reading.+leads.Given as goal

abbrev pub decreases-leads : goal.decreases-leads
decreases-leads l = length l.word.now

abbrev pub invariant-loop-step : goal.invariant-loop-step
invariant-loop-step l = (i below : ℕ) → i < l.step-index → slice_get l.steps i ≡ Some (step_of l.base l.mark below) → Leads l.steps below l.rest l.last → ⊥
