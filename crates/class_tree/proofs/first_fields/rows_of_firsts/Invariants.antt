use Rattle.std.proofs.Common.{◌≡◌, ◌≤◌, length, take}
use Rattle.class_tree.specs.FirstFields.{rows_of_firsts}
use Rattle.class_tree.proofs.first_fields.rows_of_firsts.Given as goal

abbrev pub invariant-loop-class : goal.invariant-loop-class
invariant-loop-class l = record {
  rows : l.rows.items ≡ rows_of_firsts (take l.class l.interfaces);
  within : l.class ≤ length l.interfaces;
}
