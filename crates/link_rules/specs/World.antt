-- What is linked: the classes in order, the rows of their hierarchy, and where the program begins.
use Rattle.std.specs.Prelude.{◌≡◌, ℕ, List, Option, Some, None, Bool, true, false, length}
use Rattle.class_rules.specs.declared.rows.BodyKind.{BodyKind}
use Rattle.class_rules.specs.declared.rows.BodyKind.TheVariants.{Plain, Native, Missing}
use Rattle.class_rules.specs.declared.rows.ClassRow.{ClassRow}
use Rattle.class_rules.specs.declared.rows.FieldRow.{FieldRow}
use Rattle.class_rules.specs.declared.rows.MethodRow.{MethodRow}
use Rattle.class_rules.specs.Rows.{Rows}
use Rattle.jim_ast.specs.declared.syntax.Body.{Body}
use Rattle.jim_ast.specs.declared.syntax.Program.{Program}
use Rattle.link_rules.specs.Classes.{DeclaredClass, DeclaredField, DeclaredMethod, NamedInterface, IsClassOrder, IsNamed, IsParentName, fields_of, named_interfaces, methods_of}
use Rattle.link_rules.specs.Keys.{IsFieldKeyNumber, IsMethodKeyNumber, field_key, method_key}
use Rattle.lists.specs.Lists.{BothOrNone, Each, IsFirstOr}

-- the number of the class with this name, the first such one, or the number of classes where there is none
abbrev pub IsClassNumber : List DeclaredClass → List ℕ → ℕ → Type 0
IsClassNumber classes name n = IsFirstOr (length classes) (IsNamed classes name) n

-- a parent by its number where its name is given, or no parent
abbrev pub IsParentRow : List DeclaredClass → Option (List ℕ) → Option ℕ → Type 0
IsParentRow classes name parent = BothOrNone (IsClassNumber classes) name parent

-- the row of a class
pub record IsClassRow (classes : List DeclaredClass) (c : DeclaredClass) (row : ClassRow) : Type 0 where
  pub interface : row.interface ≡ c.class.interface
  pub parent_name : Option (List ℕ)
  pub is_parent : IsParentName c parent_name
  pub parent : IsParentRow classes parent_name row.parent

-- the pair of a class and one of its interfaces
abbrev pub IsInterfacePair : List DeclaredClass → NamedInterface → ℕ × ℕ → Type 0
IsInterfacePair classes named pair = (pair.0 ≡ named.class) × IsClassNumber classes named.name pair.1

-- a method with a body is plain; without one it is native where it has that modifier, and else abstract
abbrev pub kind_of_body : Option Body → Bool → BodyKind
kind_of_body (Some body) native = Plain
kind_of_body None true = Native
kind_of_body None false = Missing

-- whether a method has statements, is native, or has nothing
abbrev pub body_kind : DeclaredMethod → BodyKind
body_kind m = kind_of_body m.decl.body m.decl.is_native

-- the row of a method
pub record IsMethodRow (methods : List DeclaredMethod) (m : DeclaredMethod) (row : MethodRow) : Type 0 where
  pub class : row.class ≡ m.class
  pub body : row.body ≡ body_kind m
  pub key : IsMethodKeyNumber methods (method_key m) row.key

-- the row of a field
pub record IsFieldRow (fields : List DeclaredField) (f : DeclaredField) (row : FieldRow) : Type 0 where
  pub class : row.class ≡ f.class
  pub key : IsFieldKeyNumber fields (field_key f) row.key

-- the rows of the hierarchy of these classes, which they determine
pub record AreRows (classes : List DeclaredClass) (rows : Rows) : Type 0 where
  pub class_rows : Each (IsClassRow classes) classes rows.classes
  pub interface_pairs : Each (IsInterfacePair classes) (named_interfaces classes) rows.implements
  pub method_rows : Each (IsMethodRow (methods_of classes)) (methods_of classes) rows.methods
  pub field_rows : Each (IsFieldRow (fields_of classes)) (fields_of classes) rows.fields

-- what is linked
pub record World : Type 0 where
  pub classes : List DeclaredClass
  pub rows : Rows
  pub entry : List ℕ

-- what an input, a prelude and the name of the class to begin with make
pub record IsWorld (input prelude : Program) (entry : List ℕ) (w : World) : Type 0 where
  pub order : IsClassOrder input prelude w.classes
  pub rows : AreRows w.classes w.rows
  pub begins : w.entry ≡ entry
