use Rattle.std.proofs.Common.{◌≡◌, ℕ, ◌<◌, ◌⊎◌, Some, length, get_or}
use Rattle.class_tree.specs.Indexed.{HasFieldNear}
use Rattle.class_rules.specs.Lookups.{FieldHere}
use Rattle.class_tree.proofs.tree.Tree.field_here.Given as goal

abbrev pub invariant-loop-row : goal.invariant-loop-row
invariant-loop-row l = record {
  within : l.at < length l.self.classes;
  goes_on : (r : ℕ) → FieldHere l.self l.fields.key l.at (Some r) → FieldHere l.self l.fields.key l.class (Some r);
  near : (l.at ≡ l.class) ⊎ HasFieldNear l.self l.at l.fields.key;
}

abbrev pub decreases-loop-row : goal.decreases-loop-row
decreases-loop-row l = get_or l.self-inside.ranks.items l.at 0
