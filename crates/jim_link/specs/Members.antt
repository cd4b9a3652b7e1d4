-- The classes, the keys and the fields of a linked program.
use Rattle.std.specs.Prelude.{◌≡◌, ◌<◌, ◌^◌, ℕ, List, count_by, length, map}
use Rattle.link_program.specs.Classes.{AreClasses, classes_in}
use Rattle.link_program.specs.Parts.{linked_field, linked_key}
use Rattle.link_program.specs.declared.parts.MemberPart.{MemberPart}
use Rattle.link_rules.specs.Classes.{DeclaredField, fields_of, methods_of}
use Rattle.link_rules.specs.Linked.{IsLinkedClass, instance_fields, key_of}
use Rattle.lists.specs.Lists.{Each}
use Rattle.link_rules.specs.World.{World}

-- how many fields are static
abbrev pub static_fields : List DeclaredField → ℕ
static_fields fields = count_by (λ f. f.decl.is_static) fields

-- the members are those of the classes that are linked
pub record AreMembers (w : World) (m : MemberPart) : Type 0 where
  pub table : AreClasses m.classes
  pub classes : Each IsLinkedClass w.classes (classes_in m.classes)
  pub keys : map linked_key m.keys ≡ map key_of (methods_of w.classes)
  pub fields : map linked_field m.fields ≡ instance_fields (fields_of w.classes)
  pub few_fields : length m.fields < 2 ^ 32
  pub static_count : m.static_count ≡ static_fields (fields_of w.classes)
