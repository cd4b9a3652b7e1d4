use Rattle.std.proofs.Common.{◌≡◌, ℕ, ◌<◌, Some, slice_get}
use Rattle.protocol_words.proofs.protocol.Protocol.next.Given as goal

abbrev pub invariant-loop-row : goal.invariant-loop-row
invariant-loop-row l = (k to : ℕ) → k < l.row-index → slice_get l.row-items k ≡ Some (record { from = l.from; event = l.event; to = to }) → ⊥
