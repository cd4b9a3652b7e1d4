use Rattle.std.proofs.Common.{◌≡◌, map, take}
use Rattle.std.specs.Prelude.{count_by, not}
use Rattle.std.specs.List.{range_with_len}
use Rattle.link_rules.specs.Classes.{fields_of}
use Rattle.link_codes.specs.Fields.{number_at}
use Rattle.link_codes.proofs.fields.FieldNumbers.new.Given as goal

abbrev pub invariant-loop-row : goal.invariant-loop-row
invariant-loop-row l = record {
  numbers : l.numbers.items ≡ map (number_at (fields_of l.classes.world.classes)) (range_with_len 0 l.row);
  instances : l.instances ≡ count_by (λ f. not f.decl.is_static) (take l.row (fields_of l.classes.world.classes));
  statics : l.statics ≡ count_by (λ f. f.decl.is_static) (take l.row (fields_of l.classes.world.classes));
}
