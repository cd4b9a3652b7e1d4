-- Members with their rows and the numbers of their keys.
use Rattle.std.specs.Prelude.{◌≡◌, ◌<◌, ◌^◌, All, length}
use Rattle.link_rules.specs.Classes.{fields_of, methods_of}
use Rattle.lists.specs.Lists.{Each}
use Rattle.link_rules.specs.World.{IsFieldRow, IsMethodRow}
use Rattle.link_classes.specs.declared.member_tables.FieldTable.{FieldTable}
use Rattle.link_classes.specs.declared.member_tables.MethodTable.{MethodTable}
use Rattle.link_classes.specs.declared.order.ClassOrder.{ClassOrder}
use Rattle.link_classes.specs.Classes.{IsKnown}
use Rattle.link_classes.specs.Seen.{IsFieldSeen, seen_classes, seen_fields, seen_methods}
use Rattle.link_classes.specs.Tables.{KnowsFields, KnowsMethods}

-- the methods of these classes
pub record IsMethodTable (o : ClassOrder) (t : MethodTable) : Type 0 where
  pub methods : seen_methods t.methods.items ≡ methods_of (seen_classes o.classes.items)
  pub few : length t.methods.items < 2 ^ 32
  pub known : All (IsKnown o.all.now.texts) t.methods.items
  pub rows : Each (IsMethodRow (methods_of (seen_classes o.classes.items))) (methods_of (seen_classes o.classes.items)) t.rows.items
  pub keys : KnowsMethods o.all.now.texts (methods_of (seen_classes o.classes.items)) t.keys

-- the fields of these classes
pub record IsFieldTable (o : ClassOrder) (t : FieldTable) : Type 0 where
  pub fields : seen_fields t.fields.items ≡ fields_of (seen_classes o.classes.items)
  pub few : length t.fields.items < 2 ^ 32
  pub known : All (IsFieldSeen o.all.now.texts) t.fields.items
  pub rows : Each (IsFieldRow (fields_of (seen_classes o.classes.items))) (fields_of (seen_classes o.classes.items)) t.rows.items
  pub keys : KnowsFields o.all.now.texts (fields_of (seen_classes o.classes.items)) t.keys
