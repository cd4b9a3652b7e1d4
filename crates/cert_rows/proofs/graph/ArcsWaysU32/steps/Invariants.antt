use Rattle.std.proofs.Common.{◌↔◌, ℕ, take}
use Rattle.lists.specs.Lists.{Has}
use Rattle.cert_rows.proofs.graph.ArcsWaysU32.steps.Given as goal

abbrev pub invariant-loop-arc : goal.invariant-loop-arc
invariant-loop-arc l = (label to : ℕ) → Has l.steps.items (record { label = label; to = to }) ↔ Has (take l.arc-index l.arc-items) (record { from = l.from; label = label; to = to })
