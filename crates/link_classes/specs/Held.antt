-- What is kept of the classes that are linked.
use Rattle.std.specs.Prelude.{◌≡◌, ℕ, ◌<◌, ◌^◌, ◌++◌, List, All, length, map}
use Rattle.class_rules.specs.Rows.{Rows}
use Rattle.jim_ast.specs.declared.names.NameId.{NameId}
use Rattle.link_rules.specs.Classes.{class_name, fields_of, methods_of}
use Rattle.link_rules.specs.Keys.{IsMethodKeyNumber}
use Rattle.link_rules.specs.Root.{initializer_key, main_key}
use Rattle.link_rules.specs.World.{AreRows, World}
use Rattle.link_classes.specs.declared.order.ClassOrder.{ClassOrder}
use Rattle.link_classes.specs.declared.seen.FieldIn.{FieldIn}
use Rattle.link_classes.specs.declared.seen.MethodIn.{MethodIn}
use Rattle.link_classes.specs.declared.tables.FieldKeys.{FieldKeys}
use Rattle.link_classes.specs.declared.tables.MethodKeys.{MethodKeys}
use Rattle.link_classes.specs.Classes.{IsKnown}
use Rattle.link_classes.specs.Numbered.{AreNumbers, fixed_names}
use Rattle.link_classes.specs.RowTables.{IsSound}
use Rattle.link_classes.specs.Seen.{IsFieldSeen, IsOrder, seen_classes, seen_fields, seen_methods}
use Rattle.link_classes.specs.Tables.{KnowsFields, KnowsMethods}

-- what classes in this order, with these rows, are linked to
abbrev pub world_of : ClassOrder → Rows → List ℕ → World
world_of o rows entry = record { classes = seen_classes o.classes.items; rows = rows; entry = entry }

-- the members of the classes, the numbers of their keys, those of the two keys that linking looks for itself, and the names of a root
pub record IsHeld (o : ClassOrder) (ms : List MethodIn) (mks : MethodKeys) (fs : List FieldIn) (fks : FieldKeys) (r : Rows) (entry : List ℕ) (m i : ℕ)
    (root_ids : List NameId) : Type 0 where
  pub order : IsOrder o
  pub rows : AreRows (seen_classes o.classes.items) r
  pub sound : IsSound (world_of o r entry)
  pub methods : seen_methods ms ≡ methods_of (seen_classes o.classes.items)
  pub few_methods : length ms < 2 ^ 32
  pub known : All (IsKnown o.all.now.texts) ms
  pub method_keys : KnowsMethods o.all.now.texts (methods_of (seen_classes o.classes.items)) mks
  pub fields : seen_fields fs ≡ fields_of (seen_classes o.classes.items)
  pub few_fields : length fs < 2 ^ 32
  pub known_fields : All (IsFieldSeen o.all.now.texts) fs
  pub field_keys : KnowsFields o.all.now.texts (fields_of (seen_classes o.classes.items)) fks
  pub root : AreNumbers o.all.now.texts (fixed_names entry) o.all.now.root.items
  pub main : IsMethodKeyNumber (methods_of (seen_classes o.classes.items)) main_key m
  pub initializer : IsMethodKeyNumber (methods_of (seen_classes o.classes.items)) initializer_key i
  pub root_names : AreNumbers o.all.now.texts (fixed_names entry ++ map class_name (seen_classes o.classes.items)) root_ids
