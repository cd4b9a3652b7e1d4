use Rattle.std.proofs.Common.{◌≡◌, ℕ, ◌<◌, ◌≤◌, get_or}
use Rattle.weight_laws.specs.Rel.{reached}
use Rattle.weight_laws.proofs.rel.composed.Given as goal

abbrev pub invariant-loop-word : goal.invariant-loop-word
invariant-loop-word l = record {
  done : (k : ℕ) → k < l.word-index → get_or l.word-items k 0 ≡ reached (get_or l.fn.first k 0) l.fn.second 16;
  kept : (k : ℕ) → l.word-index ≤ k → get_or l.word-items k 0 ≡ get_or l.fn.first k 0;
}
