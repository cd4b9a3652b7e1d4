use Rattle.std.proofs.Common.{◌≡◌, ◌+◌, ◌<◌, ◌≤◌, ℕ, Some, length, slice_get}
use Rattle.piece_join.proofs.pieces.bring_piece.Given as goal

abbrev pub invariant-loop-k : goal.invariant-loop-k
invariant-loop-k g l = record {
  count : length l.items ≡ length l.initial.items;
  ended : (i : ℕ) (old new : _) → i < l.k → slice_get l.initial.items i ≡ Some old → slice_get l.items i ≡ Some new → g.B.Bring.ends l.how (l.first + i) old new;
  waiting : (i : ℕ) → l.k ≤ i → slice_get l.items i ≡ slice_get l.initial.items i;
}
