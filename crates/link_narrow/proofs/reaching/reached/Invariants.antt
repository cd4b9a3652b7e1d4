use Rattle.std.proofs.Common.{ℕ, ◌≡◌, ◌+◌, ◌-◌, ◌^◌, length}
use Rattle.link_narrow.proofs.Reached.{IsFound}
use Rattle.link_narrow.proofs.reaching.reached.Given as goal

abbrev pub invariant-loop-at : goal.invariant-loop-at
invariant-loop-at l = (first : ℕ) → first + 1 ≡ length l.linked.methods → IsFound l.linked l.named first l.at l.found.keys

abbrev pub decreases-loop-at : goal.decreases-loop-at
decreases-loop-at l = 2 ^ 32 - l.at
