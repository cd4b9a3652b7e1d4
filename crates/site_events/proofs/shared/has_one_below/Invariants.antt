use Rattle.std.proofs.Common.{◌≡◌, ℕ, ◌<◌, Some, slice_get}
use Rattle.class_rules.specs.Rows.{Sub}
use Rattle.site_events.proofs.shared.has_one_below.Given as goal

abbrev pub invariant-loop-one : goal.invariant-loop-one
invariant-loop-one l = (k c : ℕ) → k < l.one-index → slice_get l.some k ≡ Some c → Sub l.linked.rows c l.class → ⊥
