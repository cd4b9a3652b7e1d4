use Rattle.std.proofs.Common.{◌≡◌, ◌<◌, ◌≤◌, ◌⊎◌}
use Rattle.spds_nodes.specs.Added.{Over}
use Rattle.spds_nodes.specs.Stored.{IsFiled, IsLevelStore}
use Rattle.spds_nodes.proofs.stores.push_levels.Given as goal

abbrev pub invariant-loop-inner : goal.invariant-loop-inner
invariant-loop-inner l = record {
  filed : IsFiled l.place (Over (λ i. i < l.inner) (IsLevelStore l.place)) l.fn.stores.items l.stores.items;
  within : (l.inner ≤ l.levels) ⊎ (l.inner ≡ 1);
}
