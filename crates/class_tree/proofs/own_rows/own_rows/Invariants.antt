use Rattle.std.proofs.Common.{◌≡◌, length}
use Rattle.class_tree.specs.FirstRows.{row_at}
use Rattle.class_tree.proofs.Slots.{AreOwnOf}
use Rattle.class_tree.proofs.own_rows.own_rows.Given as goal

abbrev pub invariant-loop-row : goal.invariant-loop-row
invariant-loop-row l = record {
  len : length l.owns ≡ l.count;
  exact : AreOwnOf (row_at l.rows) l.keys l.row l.owns;
}
