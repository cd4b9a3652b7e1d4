-- The classes of a linked program as they are kept.
use Rattle.std.specs.Prelude.{ℕ, ◌<◌, ◌^◌, List, length, map}
use Rattle.link_rules.specs.Accessed.{linked_class_names}
use Rattle.link_rules.specs.Linked.{LinkedClass}
use Rattle.link_program.specs.declared.classes.ClassEntry.{ClassEntry}
use Rattle.link_program.specs.declared.classes.ClassTable.{ClassTable}
use Rattle.link_program.specs.Places.{ArePlaces}

abbrev pub linked_class : ClassEntry → LinkedClass
linked_class e = record { name = e.name; instantiable = e.instantiable }

abbrev pub classes_in : ClassTable → List LinkedClass
classes_in t = map linked_class t.entries.items

-- what is kept of classes
pub record AreClasses (t : ClassTable) : Type 0 where
  pub few : length t.entries.items < 2 ^ 32
  pub places : ArePlaces (linked_class_names (classes_in t)) t.places
