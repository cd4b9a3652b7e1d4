use Rattle.std.proofs.Common.{◌≡◌, ℕ, ◌<◌, ◌≤◌, Some, slice_get}
use Rattle.link_rules.specs.declared.code.Catch.{Catch}
use Rattle.spds_nodes.proofs.found.covered_in.Given as goal

abbrev pub invariant-loop-catch : goal.invariant-loop-catch
invariant-loop-catch l =
    (i : ℕ) (c : Catch) → i < l.catch-index → slice_get l.catches i ≡ Some c → l.handler ≡ c.handler → (l.from ≤ c.from) × (c.to ≤ l.to)
