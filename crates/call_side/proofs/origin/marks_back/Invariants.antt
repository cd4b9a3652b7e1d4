use Rattle.std.proofs.Common.{◌<◌, ◌++◌, ℕ, List, length}
use Rattle.call_side.specs.Trails.{IsBack}
use Rattle.call_side.proofs.origin.marks_back.Given as goal

abbrev pub invariant-loop-at : goal.invariant-loop-at
invariant-loop-at l = record {
  there : l.at < length l.origins;
  rest : (rest : List ℕ) → IsBack l.origins l.at rest → IsBack l.origins l.number (l.marks.items ++ rest);
}

abbrev pub decreases-loop-at : goal.decreases-loop-at
decreases-loop-at l = l.at
