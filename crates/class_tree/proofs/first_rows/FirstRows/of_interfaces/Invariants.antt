use Rattle.std.proofs.Common.{◌≡◌, ℕ, take}
use Rattle.class_tree.specs.Holders.{IsInterface}
use Rattle.class_rules.specs.Lookups.{own_row}
use Rattle.class_tree.specs.FirstRows.{row_at}
use Rattle.class_tree.proofs.first_rows.FirstRows.of_interfaces.Given as goal

abbrev pub invariant-loop-row : goal.invariant-loop-row
invariant-loop-row l = (c k : ℕ) → IsInterface l.classes c → row_at l.rows c k ≡ own_row (take l.row l.methods) c k
