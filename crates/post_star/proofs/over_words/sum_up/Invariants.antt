use Rattle.post_star.specs.Measures.{work_left}
use Rattle.post_star.specs.Sweeps.{IsSweeping, AreBegun, used_scope}
use Rattle.post_star.proofs.over_words.sum_up.Given as goal

abbrev pub invariant-loop-item : goal.invariant-loop-item
invariant-loop-item g l = record {
  sweeping : IsSweeping g.W.Weight.domain l.table l.node l.sums.table l.sums.items.items;
  begun : AreBegun g.W.Weight.domain l.table l.node l.sums.table;
}

abbrev pub decreases-loop-item : goal.decreases-loop-item
decreases-loop-item g l = work_left g.W.Weight.domain (used_scope l.table l.node) l.sums.table l.sums.items.items
