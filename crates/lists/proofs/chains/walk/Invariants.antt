use Rattle.std.proofs.Common.{◌≡◌, ◌≤◌, ℕ, length, slice_get, Some}
use Rattle.lists.specs.Chains.{OnChain}
use Rattle.lists.proofs.chains.walk.Given as goal

abbrev pub invariant-loop-at : goal.invariant-loop-at
invariant-loop-at g l = record {
  low : l.at ≤ length l.keys;
  missed : (i : ℕ) → OnChain l.next l.head i → slice_get l.keys i ≡ Some l.key → OnChain l.next l.at i;
}

abbrev pub decreases-loop-at : goal.decreases-loop-at
decreases-loop-at g l = l.at
