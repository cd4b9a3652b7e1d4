use Rattle.std.proofs.Common.{ℕ, ◌<◌, Option, length, get_or}
use Rattle.class_rules.specs.Lookups.{FieldOf}
use Rattle.class_tree.proofs.tree.Tree.field.Given as goal

abbrev pub invariant-loop-near : goal.invariant-loop-near
invariant-loop-near l = record {
  within : l.at < length l.self.classes;
  goes_on : (r : Option ℕ) → FieldOf l.self l.at l.key r → FieldOf l.self l.class l.key r;
}

abbrev pub decreases-loop-near : goal.decreases-loop-near
decreases-loop-near l = get_or l.self-inside.places.items l.at 0
