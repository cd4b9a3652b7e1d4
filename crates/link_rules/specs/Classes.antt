-- The classes that are linked, in their order, and their members.
use Rattle.std.specs.Prelude.{◌≡◌, ◌≢◌, ℕ, ◌⊎◌, ◌++◌, List, [], ◌∷◌, Option, Some, None, codes, flat_map, map, slice_get}
use Rattle.std.specs.List.{enumerate_from}
use Rattle.jim_ast.specs.declared.names.NameId.{NameId}
use Rattle.jim_ast.specs.declared.syntax.Program.{Program}
use Rattle.jim_ast.specs.declared.syntax.Class.{Class}
use Rattle.jim_ast.specs.declared.syntax.FieldDecl.{FieldDecl}
use Rattle.jim_ast.specs.declared.syntax.MethodDecl.{MethodDecl}
use Rattle.link_rules.specs.Names.{text_of, type_text, types_text}

-- a class, with the names of the program that it stands in
pub record DeclaredClass : Type 0 where
  pub names : List (List ℕ)
  pub class : Class

-- the classes that a program declares
abbrev pub classes_of : Program → List DeclaredClass
classes_of program = map (λ c. record { names = program.names; class = c }) program.classes

-- the name of a class, by bytes
abbrev pub class_name : DeclaredClass → List ℕ
class_name c = text_of c.names c.class.name

-- the class with this number has this name
pub record IsNamed (classes : List DeclaredClass) (name : List ℕ) (number : ℕ) : Type 0 where
  pub class : DeclaredClass
  pub there : slice_get classes number ≡ Some class
  pub named : class_name class ≡ name

-- some class has this name
abbrev pub IsDeclared : List DeclaredClass → List ℕ → Type 0
IsDeclared classes name = (number : ℕ) × IsNamed classes name number

-- classes are completed by stand-ins: behind those that are there already, in order, each one whose name none before it has
pub data IsCompleted : List DeclaredClass → List DeclaredClass → List DeclaredClass → Type 0 where
  ends : {so_far : List DeclaredClass} → IsCompleted so_far [] so_far
  comes : {so_far rest all : List DeclaredClass} {c : DeclaredClass} → (IsDeclared so_far (class_name c) → ⊥)
      → IsCompleted (so_far ++ c ∷ []) rest all → IsCompleted so_far (c ∷ rest) all
  is_left_out : {so_far rest all : List DeclaredClass} {c : DeclaredClass} → IsDeclared so_far (class_name c)
      → IsCompleted so_far rest all → IsCompleted so_far (c ∷ rest) all

-- the classes of the input in written order, and then those of the prelude whose name no class before them has: this project's own rule
abbrev pub IsClassOrder : Program → Program → List DeclaredClass → Type 0
IsClassOrder input prelude classes = IsCompleted (classes_of input) (classes_of prelude) classes

-- the name of the class at the top
abbrev pub object_name : List ℕ
object_name = codes "java.lang.Object"

-- what a class without `extends` has as its parent: `java.lang.Object`, which has none itself
abbrev pub IsDefaultParent : List ℕ → Option (List ℕ) → Type 0
IsDefaultParent name parent = ((name ≡ object_name) × (parent ≡ None)) ⊎ ((name ≢ object_name) × (parent ≡ Some object_name))

-- the name of the parent of a class with this name, by what it extends
abbrev pub IsParentBy : List (List ℕ) → List ℕ → Option NameId → Option (List ℕ) → Type 0
IsParentBy names name (Some extended) parent = parent ≡ Some (text_of names extended)
IsParentBy names name None parent = IsDefaultParent name parent

-- the name of the parent of a class or an interface, if it has one
abbrev pub IsParentName : DeclaredClass → Option (List ℕ) → Type 0
IsParentName c parent = IsParentBy c.names (class_name c) c.class.parent parent

-- an interface that a class names
pub record NamedInterface : Type 0 where
  pub class : ℕ
  pub name : List ℕ

-- what the class with this number names behind `implements`, in order
abbrev pub interfaces_in : ℕ → DeclaredClass → List NamedInterface
interfaces_in number c = map (λ i. record { class = number; name = text_of c.names i }) c.class.interfaces

-- what the classes name there, class by class
abbrev pub named_interfaces : List DeclaredClass → List NamedInterface
named_interfaces classes = flat_map (λ c. interfaces_in c.0 c.1) (enumerate_from 0 classes)

-- a method, with the number and the name of its class and the names of its program
pub record DeclaredMethod : Type 0 where
  pub class : ℕ
  pub owner : List ℕ
  pub names : List (List ℕ)
  pub decl : MethodDecl

-- the methods of the class with this number, in order
abbrev pub methods_in : ℕ → DeclaredClass → List DeclaredMethod
methods_in number c = map (λ m. record { class = number; owner = class_name c; names = c.names; decl = m }) c.class.methods

-- a method is named by its place in this list: class by class, in written order
abbrev pub methods_of : List DeclaredClass → List DeclaredMethod
methods_of classes = flat_map (λ c. methods_in c.0 c.1) (enumerate_from 0 classes)

-- a field, with the number of its class and the names of its program
pub record DeclaredField : Type 0 where
  pub class : ℕ
  pub names : List (List ℕ)
  pub decl : FieldDecl

-- the fields of the class with this number, in order
abbrev pub fields_in : ℕ → DeclaredClass → List DeclaredField
fields_in number c = map (λ f. record { class = number; names = c.names; decl = f }) c.class.fields

-- a field is named by its place in this list: class by class, in written order
abbrev pub fields_of : List DeclaredClass → List DeclaredField
fields_of classes = flat_map (λ c. fields_in c.0 c.1) (enumerate_from 0 classes)

-- `<C: R m(P1,P2)>`, as Soot writes a method's signature, with names unquoted and no blank behind a comma
abbrev pub method_text : DeclaredMethod → List ℕ
method_text m = codes "<" ++ m.owner ++ codes ": " ++ type_text m.names m.decl.result ++ codes " " ++ text_of m.names m.decl.name
    ++ codes "(" ++ types_text m.names m.decl.params ++ codes ")>"
