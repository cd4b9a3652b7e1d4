use Rattle.std.proofs.Common.{ℕ, ◌≡◌, ◌<◌, length}
use Rattle.default_turns.specs.Hops.{AreHops, IsHop, hop_at}
use Rattle.default_turns.proofs.hops.hops_of.Given as goal

abbrev pub invariant-loop-at : goal.invariant-loop-at
invariant-loop-at l = record {
  len : length l.hops.items ≡ l.at;
  each : (k : ℕ) → k < l.at → IsHop l.placed.tree.now l.holders k (hop_at l.hops.items k);
}

abbrev pub invariant-loop-at-2 : goal.invariant-loop-at-2
invariant-loop-at-2 l = AreHops l.placed.tree.now l.holders l.hops.items
