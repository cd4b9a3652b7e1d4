-- What is found of classes by their rows.
use Rattle.std.specs.Prelude.{◌≡◌, ◌++◌, ℕ, List, map}
use Rattle.link_rules.specs.Classes.{class_name, methods_of}
use Rattle.link_rules.specs.Keys.{IsMethodKeyNumber}
use Rattle.link_rules.specs.Root.{initializer_key, main_key}
use Rattle.link_classes.specs.declared.classes.Found.{Found}
use Rattle.link_classes.specs.declared.order.ClassOrder.{ClassOrder}
use Rattle.link_classes.specs.declared.row_tables.RowTables.{RowTables}
use Rattle.link_classes.specs.Numbered.{AreNumbers, fixed_names}
use Rattle.link_classes.specs.RowTables.{IsSound, rows_in, world_in}
use Rattle.link_classes.specs.Seen.{seen_classes}

-- the hierarchy, the numbers of the two keys that linking looks for itself, and the names of a root, where the first names are those that it always has
pub record IsFound (o : ClassOrder) (t : RowTables) (f : Found) : Type 0 where
  pub tree : f.tree ≡ rows_in t
  pub sound : (entry : List ℕ) → IsSound (world_in o t entry)
  pub main : (entry : List ℕ) → AreNumbers o.all.now.texts (fixed_names entry) o.all.now.root.items → IsMethodKeyNumber (methods_of (seen_classes o.classes.items)) main_key f.main
  pub initializer : (entry : List ℕ) → AreNumbers o.all.now.texts (fixed_names entry) o.all.now.root.items
      → IsMethodKeyNumber (methods_of (seen_classes o.classes.items)) initializer_key f.initializer
  pub root : (entry : List ℕ) → AreNumbers o.all.now.texts (fixed_names entry) o.all.now.root.items
      → AreNumbers o.all.now.texts (fixed_names entry ++ map class_name (seen_classes o.classes.items)) f.root.items
