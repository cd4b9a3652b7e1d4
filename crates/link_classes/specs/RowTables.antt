-- All rows of the classes.
use Rattle.std.specs.Prelude.{ℕ, List}
use Rattle.class_tree.specs.declared.errors.TreeError.{TreeError}
use Rattle.class_tree.specs.declared.errors.TreeError.TheVariants as error
use Rattle.lists.specs.Lists.{IsLeast}
use Rattle.class_rules.specs.Rows.{IsOwnAncestor, NamesUnknown, Rows, rows_of}
use Rattle.link_rules.specs.Refusals.{HasEarlierName}
use Rattle.link_rules.specs.World.{AreRows, World}
use Rattle.link_classes.specs.declared.order.ClassOrder.{ClassOrder}
use Rattle.link_classes.specs.declared.row_tables.RowTables.{RowTables}
use Rattle.link_classes.specs.MemberTables.{IsFieldTable, IsMethodTable}
use Rattle.link_classes.specs.Seen.{seen_classes}

abbrev pub rows_in : RowTables → Rows
rows_in t = rows_of t.classes.items t.implements.items t.methods.rows.items t.fields.rows.items

-- what is linked, beginning with this class
abbrev pub world_in : ClassOrder → RowTables → List ℕ → World
world_in o t entry = record { classes = seen_classes o.classes.items; rows = rows_in t; entry = entry }

-- the rows of these classes, with their members
pub record AreRowTables (o : ClassOrder) (t : RowTables) : Type 0 where
  pub methods : IsMethodTable o t.methods
  pub fields : IsFieldTable o t.fields
  pub rows : AreRows (seen_classes o.classes.items) (rows_in t)

-- what an error says of the rows
abbrev pub Tells : Rows → TreeError → Type 0
Tells rows (error.UnknownParent class) = IsLeast (NamesUnknown rows.classes rows.implements) class
Tells rows (error.Cyclic class) = IsLeast (IsOwnAncestor rows.classes rows.implements) class × ((number : ℕ) → NamesUnknown rows.classes rows.implements number → ⊥)
Tells rows error.NoMemory = Unit {0}

-- no class has the name of another, each parent is a class, and no class is its own ancestor
pub record IsSound (w : World) : Type 0 where
  pub single : (number : ℕ) → HasEarlierName w number → ⊥
  pub known : (number : ℕ) → NamesUnknown w.rows.classes w.rows.implements number → ⊥
  pub acyclic : (number : ℕ) → IsOwnAncestor w.rows.classes w.rows.implements number → ⊥
