-- Look-ups of fields that go from each class to its first interface.
use Rattle.std.specs.Prelude.{◌≡◌, ℕ, List, false, length, map, slice_get}
use Rattle.class_tree.specs.declared.first_fields.FirstFields.{FirstFields}
use Rattle.class_rules.specs.declared.rows.ClassRow.{ClassRow}
use Rattle.class_rules.specs.declared.rows.FieldRow.{FieldRow}
use Rattle.class_rules.specs.Lookups.{own_field}
use Rattle.class_tree.specs.Turns.{TellPaths}

-- for each class a row that names its first interface as its parent
abbrev pub rows_of_firsts : List (List ℕ) → List ClassRow
rows_of_firsts interfaces = map (λ listed. record { parent = slice_get listed 0; interface = false }) interfaces

-- from each class the row of the first field of the key on the way that goes from class to first interface
pub record TellFirstFields (interfaces : List (List ℕ)) (fields : List FieldRow) (f : FirstFields) : Type 0 where
  pub len : length f.numbers.items ≡ length interfaces
  pub paths : TellPaths (rows_of_firsts interfaces) (own_field fields) f.numbers.items f.fields
