-- The numbers of fields.
use Rattle.std.specs.Prelude.{ℕ, List, length, map}
use Rattle.std.specs.List.{range_with_len}
use Rattle.link_rules.specs.Classes.{DeclaredField}
use Rattle.link_rules.specs.Codes.{instance_number, static_number}
use Rattle.link_codes.specs.declared.fields.FieldNumber.{FieldNumber}

-- what a field of each row is numbered, as an instance field and as a static one
abbrev pub number_at : List DeclaredField → ℕ → FieldNumber
number_at fields row = record { instance_field = instance_number fields row; static_field = static_number fields row }

abbrev pub field_numbers : List DeclaredField → List FieldNumber
field_numbers fields = map (number_at fields) (range_with_len 0 (length fields))
