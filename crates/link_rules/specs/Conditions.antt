-- What linking asks of the two programs.
use Rattle.std.specs.Prelude.{◌≡◌, ◌≢◌, ℕ, ◌<◌, ◌≤◌, ◌++◌, List, [], ◌∷◌, Some, All, flat_map, length}
use Rattle.std.specs.Option.{option_to_list}
use Rattle.lists.specs.Lists.{Has}
use Rattle.jim_ast.specs.declared.names.NameId.{NameId}
use Rattle.jim_ast.specs.declared.syntax.Base.{Base}
use Rattle.jim_ast.specs.declared.syntax.Base.TheVariants as base
use Rattle.jim_ast.specs.declared.syntax.Body.{Body}
use Rattle.jim_ast.specs.declared.syntax.Class.{Class}
use Rattle.jim_ast.specs.declared.syntax.Expr.{Expr}
use Rattle.jim_ast.specs.declared.syntax.Expr.TheVariants as expr
use Rattle.jim_ast.specs.declared.syntax.FieldDecl.{FieldDecl}
use Rattle.jim_ast.specs.declared.syntax.FieldSig.{FieldSig}
use Rattle.jim_ast.specs.declared.syntax.Imm.{Imm}
use Rattle.jim_ast.specs.declared.syntax.Imm.TheVariants as imm
use Rattle.jim_ast.specs.declared.syntax.Invoke.{Invoke}
use Rattle.jim_ast.specs.declared.syntax.Invoke.TheVariants.{Plain, Dynamic}
use Rattle.jim_ast.specs.declared.syntax.Label.{Label}
use Rattle.jim_ast.specs.declared.syntax.MethodDecl.{MethodDecl}
use Rattle.jim_ast.specs.declared.syntax.MethodSig.{MethodSig}
use Rattle.jim_ast.specs.declared.syntax.Program.{Program}
use Rattle.jim_ast.specs.declared.syntax.Stmt.{Stmt}
use Rattle.jim_ast.specs.declared.syntax.Stmt.TheVariants as stmt
use Rattle.jim_ast.specs.declared.syntax.Trap.{Trap}
use Rattle.jim_ast.specs.declared.syntax.Ty.{Ty}
use Rattle.link_rules.specs.Classes.{IsDeclared, classes_of}
use Rattle.link_rules.specs.Keys.{HasReceiverByMode}
use Rattle.link_rules.specs.Targets.{nine_names}

-- the names that each part of a program has

abbrev pub base_names : Base → List NameId
base_names (base.Class name) = name ∷ []
base_names _ = []

abbrev pub type_names : Ty → List NameId
type_names ty = base_names ty.base

abbrev pub field_sig_names : FieldSig → List NameId
field_sig_names sig = sig.class ∷ sig.name ∷ type_names sig.ty

abbrev pub method_sig_names : MethodSig → List NameId
method_sig_names sig = sig.class ∷ sig.name ∷ type_names sig.result ++ flat_map type_names sig.params

abbrev pub operand_names : Imm → List NameId
operand_names (imm.Local name) = name ∷ []
operand_names (imm.Text name) = name ∷ []
operand_names (imm.ClassConst name) = name ∷ []
operand_names _ = []

abbrev pub call_names : Invoke → List NameId
call_names (Plain mode receiver sig args) = option_to_list receiver ++ method_sig_names sig ++ flat_map operand_names args
call_names Dynamic = []

abbrev pub expr_names : Expr → List NameId
expr_names (expr.Use a) = operand_names a
expr_names (expr.New class) = class ∷ []
expr_names (expr.NewArray ty) = type_names ty
expr_names (expr.NewMulti ty sized) = type_names ty
expr_names (expr.Cast ty a) = type_names ty ++ operand_names a
expr_names (expr.Length a) = operand_names a
expr_names (expr.Numeric divides) = []
expr_names (expr.Field base sig) = base ∷ field_sig_names sig
expr_names (expr.Static sig) = field_sig_names sig
expr_names (expr.Cell base) = base ∷ []
expr_names (expr.Invoke call) = call_names call

abbrev pub stmt_names : Stmt → List NameId
stmt_names (stmt.This x) = x ∷ []
stmt_names (stmt.Param x number) = x ∷ []
stmt_names (stmt.Caught x) = x ∷ []
stmt_names (stmt.Assign x e) = x ∷ expr_names e
stmt_names (stmt.PutField base sig a) = base ∷ field_sig_names sig ++ operand_names a
stmt_names (stmt.PutStatic sig a) = field_sig_names sig ++ operand_names a
stmt_names (stmt.PutCell base a) = base ∷ operand_names a
stmt_names (stmt.Call call) = call_names call
stmt_names (stmt.If label) = label ∷ []
stmt_names (stmt.Goto label) = label ∷ []
stmt_names (stmt.Switch labels) = labels
stmt_names (stmt.Return a) = flat_map operand_names (option_to_list a)
stmt_names (stmt.Throw a) = operand_names a
stmt_names (stmt.Monitor a) = operand_names a
stmt_names stmt.Skip = []
stmt_names stmt.Ret = []

abbrev pub label_names : Label → List NameId
label_names label = label.name ∷ []

abbrev pub trap_names : Trap → List NameId
trap_names trap = trap.class ∷ trap.from ∷ trap.to ∷ trap.with ∷ []

abbrev pub body_names : Body → List NameId
body_names body = body.locals ++ flat_map stmt_names body.stmts ++ flat_map label_names body.labels ++ flat_map trap_names body.traps

abbrev pub method_names : MethodDecl → List NameId
method_names m = m.name ∷ type_names m.result ++ flat_map type_names m.params ++ flat_map body_names (option_to_list m.body)

abbrev pub field_names : FieldDecl → List NameId
field_names f = f.name ∷ type_names f.ty

abbrev pub class_names : Class → List NameId
class_names c = c.name ∷ option_to_list c.parent ++ c.interfaces ++ flat_map field_names c.fields ++ flat_map method_names c.methods

-- each name is one of these
abbrev pub AreWithin : List (List ℕ) → List NameId → Type 0
AreWithin names ids = All (λ (id : NameId). id.0 < length names) ids

-- a call as it is read
abbrev pub IsReadCall : Invoke → Type 0
IsReadCall (Plain mode receiver sig args) = HasReceiverByMode mode receiver
IsReadCall Dynamic = Unit {0}

abbrev pub IsReadExpr : Expr → Type 0
IsReadExpr (expr.Invoke call) = IsReadCall call
IsReadExpr (expr.NewMulti ty sized) = sized < 256
IsReadExpr _ = Unit {0}

-- a statement as it is read: a call has a receiver exactly where its mode isn't static, a switch has its default, and sizes are given for 255 levels
-- of an array of arrays at most
abbrev pub IsReadStmt : Stmt → Type 0
IsReadStmt (stmt.Assign x e) = IsReadExpr e
IsReadStmt (stmt.Call call) = IsReadCall call
IsReadStmt (stmt.Switch labels) = labels ≢ []
IsReadStmt _ = Unit {0}

-- a body as it is read: no label stands behind the end
pub record IsReadBody (body : Body) : Type 0 where
  pub stmts : All IsReadStmt body.stmts
  pub labels : All (λ (label : Label). label.index ≤ length body.stmts) body.labels

-- a program as it is read
pub record IsRead (program : Program) : Type 0 where
  pub names : AreWithin program.names (flat_map class_names program.classes)
  pub bodies : (c : Class) (m : MethodDecl) (body : Body) → Has program.classes c → Has c.methods m → m.body ≡ Some body → IsReadBody body

-- the classes that a prelude is to declare
abbrev pub DeclaresNine : Program → Type 0
DeclaresNine prelude = All (IsDeclared (classes_of prelude)) nine_names
