use Rattle.std.proofs.Common.{◌≡◌, ℕ, ◌<◌}
use Rattle.std.specs.List.{All, Contains}
use Rattle.class_tree.specs.declared.own_rows.Own.{Own}
use Rattle.class_tree.proofs.walk.all_slots.Given as goal

abbrev pub invariant-loop-slot : goal.invariant-loop-slot
invariant-loop-slot l = record {
  within : All (λ o. o.slot < l.count) l.owns.items;
  all : (s : ℕ) → s < l.slot → (o : Own) × Contains l.owns.items o × (o.slot ≡ s);
}
