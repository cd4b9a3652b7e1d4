use Rattle.std.proofs.Common.{◌≡◌, [], length}
use Rattle.piece_join.specs.Brought.{AllAt}
use Rattle.base_rows.proofs.pieces.rows.Given as goal

abbrev pub invariant-loop : goal.invariant-loop
invariant-loop l = record {
  count : length l.rows.items ≡ l.counter;
  empty : AllAt (λ number row. row.items ≡ []) 0 l.rows.items;
}
