-- The root: a static method without parameters that makes the arguments, initializes classes and calls `main`. It is this project's own, as
-- are its place and its text; the Java Virtual Machine would initialize classes one by one, on first use.
use Rattle.std.specs.Prelude.{ℕ, ◌+◌, ◌++◌, List, [], ◌∷◌, Some, None, true, false, codes, length, map}
use Rattle.jim_ast.specs.declared.names.NameId.{NameId}
use Rattle.jim_ast.specs.declared.syntax.Base.TheVariants as base
use Rattle.jim_ast.specs.declared.syntax.Expr.TheVariants as expr
use Rattle.jim_ast.specs.declared.syntax.Imm.TheVariants as imm
use Rattle.jim_ast.specs.declared.syntax.Invoke.TheVariants.{Plain}
use Rattle.jim_ast.specs.declared.syntax.Mode.TheVariants.{Static}
use Rattle.jim_ast.specs.declared.syntax.Stmt.{Stmt}
use Rattle.jim_ast.specs.declared.syntax.Stmt.TheVariants as stmt
use Rattle.jim_ast.specs.declared.syntax.Ty.{Ty}
use Rattle.link_rules.specs.Classes.{DeclaredMethod, class_name, methods_of}
use Rattle.link_rules.specs.Keys.{MethodKey}
use Rattle.link_rules.specs.Names.{built_in, named}
use Rattle.link_rules.specs.World.{World}

-- the root's names: its locals, those that its statements name, and behind these the names of all classes
abbrev pub root_names : World → List (List ℕ)
root_names w = codes "text" ∷ codes "args" ∷ codes "java.lang.String" ∷ codes "<clinit>" ∷ codes "main" ∷ w.entry
    ∷ map class_name w.classes

-- a name of the root, by its number
abbrev pub name_at : ℕ → NameId
name_at number = record { 0 = number }

-- the local that holds the text of the arguments
abbrev pub text_local : NameId
text_local = name_at 0

-- the local that holds the array of arguments
abbrev pub args_local : NameId
args_local = name_at 1

-- the name of the class of texts
abbrev pub string_class : NameId
string_class = name_at 2

-- no result
abbrev pub void_type : Ty
void_type = record { base = base.Void; dims = 0 }

-- the type of texts
abbrev pub string_type : Ty
string_type = record { base = base.Class string_class; dims = 0 }

-- the type of arrays of texts
abbrev pub strings_type : Ty
strings_type = record { base = base.Class string_class; dims = 1 }

-- `staticinvoke <C: void <clinit>()>()`, for the class with this number
abbrev pub initializer_call : ℕ → Stmt
initializer_call class =
    stmt.Call (Plain Static None (record { class = name_at (6 + class); result = void_type; name = name_at 3; params = [] }) [])

-- `staticinvoke <ENTRY: void main(java.lang.String[])>(args)`
abbrev pub main_call : Stmt
main_call =
    stmt.Call (Plain Static None (record { class = name_at 5; result = void_type; name = name_at 4; params = strings_type ∷ [] }) (imm.Local args_local ∷ []))

-- `text = new java.lang.String`, `args = newarray (java.lang.String)[1]`, `args[0] = text`
abbrev pub make_args : List Stmt
make_args =
    stmt.Assign text_local (expr.New string_class) ∷ stmt.Assign args_local (expr.NewArray string_type) ∷ stmt.PutCell args_local (imm.Local text_local) ∷ []

-- the statements of the root that initializes these classes
abbrev pub root_stmts : List ℕ → List Stmt
root_stmts initialized = make_args ++ map initializer_call initialized ++ main_call ∷ stmt.Return None ∷ []

-- the root that initializes these classes, in this order. Its class is none: it has the number behind those of the classes
abbrev pub root_of : World → List ℕ → DeclaredMethod
root_of w initialized = record {
  class = length w.classes;
  owner = [];
  names = root_names w;
  decl = record {
    name = text_local;
    result = void_type;
    params = [];
    is_static = true;
    is_native = false;
    body = Some (record { locals = text_local ∷ args_local ∷ []; stmts = root_stmts initialized; labels = []; traps = [] });
  };
}

-- the root has the number behind those of the methods of classes
abbrev pub root_number : World → ℕ
root_number w = length (methods_of w.classes)

-- the key of `static void <clinit>()`
abbrev pub initializer_key : MethodKey
initializer_key =
    record { name = codes "<clinit>"; params = []; result = record { base = built_in base.Void; dims = 0 }; is_static = true }

-- the key of `static void main(java.lang.String[])`
abbrev pub main_key : MethodKey
main_key =
    record {
      name = codes "main";
      params = record { base = named (codes "java.lang.String"); dims = 1 } ∷ [];
      result = record { base = built_in base.Void; dims = 0 };
      is_static = true;
    }
