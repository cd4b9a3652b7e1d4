use Rattle.std.proofs.Common.{◌≡◌, ℕ, Some, length, slice_get}
use Rattle.rule_cells.specs.declared.cells.Cell.{Cell}
use Rattle.rule_cells.specs.Made.{own_cell}
use Rattle.rule_cells.proofs.cells.own_cells.Given as goal

abbrev pub invariant-loop-head : goal.invariant-loop-head
invariant-loop-head g l = record {
  count : length l.cells.items ≡ l.head;
  own : (n : ℕ) (c : Cell g.row.W.Denot) → slice_get l.cells.items n ≡ Some c → c ≡ own_cell g.W.Weight.domain n;
}
