-- A linked program by its parts.
use Rattle.std.specs.Prelude.{◌<◌, ◌^◌, List, length, map}
use Rattle.class_rules.specs.Rows.{Rows}
use Rattle.default_turns.specs.Selections.{AreSelections}
use Rattle.link_rules.specs.Linked.{LinkedField, LinkedKey, LinkedProgram}
use Rattle.link_rules.specs.WellLinked.{IsInForm}
use Rattle.link_indexes.specs.Tables.{AreIndexes, Tables}
use Rattle.link_program.specs.declared.parts.CodePart.{CodePart}
use Rattle.link_program.specs.declared.parts.FieldEntry.{FieldEntry}
use Rattle.link_program.specs.declared.parts.KeyEntry.{KeyEntry}
use Rattle.link_indexes.specs.declared.method.MethodCode.{MethodCode}
use Rattle.link_program.specs.declared.parts.MemberPart.{MemberPart}
use Rattle.link_program.specs.declared.parts.Shared.{Shared}
use Rattle.link_program.specs.Classes.{AreClasses, classes_in}
use Rattle.link_program.specs.Methods.{AreMethods, AreMethodsWith, coded, methods_in, methods_with}

abbrev pub linked_key : KeyEntry → LinkedKey
linked_key k = record { name = k.name; is_static = k.is_static }

abbrev pub linked_field : FieldEntry → LinkedField
linked_field f = record { class = f.class; name = f.name }

-- the linked program with these parts and this hierarchy
abbrev pub program_of : CodePart → MemberPart → Rows → LinkedProgram
program_of c m rows = record {
  methods = methods_in c.methods;
  classes = classes_in m.classes;
  fields = map linked_field m.fields;
  static_count = m.static_count;
  keys = map linked_key m.keys;
  texts = c.constants.texts;
  class_texts = c.constants.class_texts;
  rows = rows;
  method_rows = c.rows;
}

-- what is kept of parts
pub record AreParts (c : CodePart) (m : MemberPart) : Type 0 where
  pub methods : AreMethods c.methods
  pub classes : AreClasses m.classes
  pub few_fields : length m.fields < 2 ^ 32

-- the linked program with these parts and this code
abbrev pub program_with : Shared → List MethodCode → LinkedProgram
program_with s bodies = record {
  methods = methods_with s.heads bodies;
  classes = classes_in s.members.classes;
  fields = map linked_field s.members.fields;
  static_count = s.members.static_count;
  keys = map linked_key s.members.keys;
  texts = s.constants.texts;
  class_texts = s.constants.class_texts;
  rows = s.tree;
  method_rows = s.rows;
}

-- what is kept of a linked program
pub record IsKept (s : Shared) (bodies : List MethodCode) (t : Tables) : Type 0 where
  pub methods : AreMethodsWith s.heads bodies
  pub classes : AreClasses s.members.classes
  pub few_fields : length s.members.fields < 2 ^ 32
  pub form : IsInForm (program_with s bodies)
  pub indexes : AreIndexes (map (λ m. m.code) (methods_with s.heads bodies)) t
  pub selections : AreSelections s.tree s.selections

-- the program with other code for its methods
abbrev pub with_code : LinkedProgram → List MethodCode → LinkedProgram
with_code p bodies = record p { methods = coded p.methods bodies }
