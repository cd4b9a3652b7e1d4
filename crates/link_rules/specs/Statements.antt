-- The parts of statements that the rules of linking look at, one definition by cases for each part.
use Rattle.std.specs.Prelude.{◌≡◌, ℕ, ◌++◌, List, [], ◌∷◌, Option, Some, None, Bool, true, false, slice_get}
use Rattle.std.specs.Option.{option_to_list}
use Rattle.std.specs.List.{filter_map}
use Rattle.jim_ast.specs.declared.names.NameId.{NameId}
use Rattle.jim_ast.specs.declared.syntax.Body.{Body}
use Rattle.jim_ast.specs.declared.syntax.Expr.{Expr}
use Rattle.jim_ast.specs.declared.syntax.Expr.TheVariants as expr
use Rattle.jim_ast.specs.declared.syntax.FieldSig.{FieldSig}
use Rattle.jim_ast.specs.declared.syntax.Imm.{Imm}
use Rattle.jim_ast.specs.declared.syntax.Imm.TheVariants as imm
use Rattle.jim_ast.specs.declared.syntax.Invoke.{Invoke}
use Rattle.jim_ast.specs.declared.syntax.Invoke.TheVariants.{Plain, Dynamic}
use Rattle.jim_ast.specs.declared.syntax.MethodSig.{MethodSig}
use Rattle.jim_ast.specs.declared.syntax.Mode.{Mode}
use Rattle.jim_ast.specs.declared.syntax.Stmt.{Stmt}
use Rattle.jim_ast.specs.declared.syntax.Stmt.TheVariants as stmt
use Rattle.link_rules.specs.Classes.{DeclaredMethod}

-- the body of the method
abbrev pub HasBody : DeclaredMethod → Body → Type 0
HasBody m body = m.decl.body ≡ Some body

-- the statement of the method at an index
pub record StmtAt (m : DeclaredMethod) (index : ℕ) (s : Stmt) : Type 0 where
  pub body : Body
  pub in_body : HasBody m body
  pub there : slice_get body.stmts index ≡ Some s

-- the call in an expression
abbrev pub expr_call : Expr → Option Invoke
expr_call (expr.Invoke call) = Some call
expr_call _ = None

-- the call that a statement makes
abbrev pub call_of : Stmt → Option Invoke
call_of (stmt.Assign x e) = expr_call e
call_of (stmt.Call call) = Some call
call_of _ = None

-- the arguments of a call
abbrev pub call_args : Invoke → List Imm
call_args (Plain mode receiver sig args) = args
call_args Dynamic = []

-- the operands of an expression that are kept, in order
abbrev pub expr_operands : Expr → List Imm
expr_operands (expr.Use a) = a ∷ []
expr_operands (expr.Cast ty a) = a ∷ []
expr_operands (expr.Length a) = a ∷ []
expr_operands (expr.Invoke call) = call_args call
expr_operands _ = []

-- the operands of a statement that are kept, in order; a receiver, a base or an array isn't one of them
abbrev pub operands : Stmt → List Imm
operands (stmt.Assign x e) = expr_operands e
operands (stmt.PutField base sig a) = a ∷ []
operands (stmt.PutStatic sig a) = a ∷ []
operands (stmt.PutCell base a) = a ∷ []
operands (stmt.Call call) = call_args call
operands (stmt.Return a) = option_to_list a
operands (stmt.Throw a) = a ∷ []
operands (stmt.Monitor a) = a ∷ []
operands _ = []

-- the local of an operand
abbrev pub operand_local : Imm → Option NameId
operand_local (imm.Local x) = Some x
operand_local _ = None

-- the local that a call is made on
abbrev pub call_base : Invoke → List NameId
call_base (Plain mode receiver sig args) = option_to_list receiver
call_base Dynamic = []

-- the local with the object or the array that an expression reads
abbrev pub expr_base : Expr → List NameId
expr_base (expr.Field base sig) = base ∷ []
expr_base (expr.Cell base) = base ∷ []
expr_base (expr.Invoke call) = call_base call
expr_base _ = []

-- the locals that a statement assigns, or whose object it reads or writes
abbrev pub locals_beside_operands : Stmt → List NameId
locals_beside_operands (stmt.This x) = x ∷ []
locals_beside_operands (stmt.Param x number) = x ∷ []
locals_beside_operands (stmt.Caught x) = x ∷ []
locals_beside_operands (stmt.Assign x e) = x ∷ expr_base e
locals_beside_operands (stmt.PutField base sig a) = base ∷ []
locals_beside_operands (stmt.PutCell base a) = base ∷ []
locals_beside_operands (stmt.Call call) = call_base call
locals_beside_operands _ = []

-- all locals of a statement that are kept
abbrev pub locals_of : Stmt → List NameId
locals_of s = locals_beside_operands s ++ filter_map operand_local (operands s)

-- the labels that a statement names, in order
abbrev pub labels_of : Stmt → List NameId
labels_of (stmt.If label) = label ∷ []
labels_of (stmt.Goto label) = label ∷ []
labels_of (stmt.Switch labels) = labels
labels_of _ = []

-- the statement may be followed by the one behind it
abbrev pub GoesOn : Stmt → Type 0
GoesOn (stmt.Goto label) = ⊥
GoesOn (stmt.Switch labels) = ⊥
GoesOn (stmt.Return a) = ⊥
GoesOn (stmt.Throw a) = ⊥
GoesOn _ = Unit {0}

-- the class that an expression makes
abbrev pub expr_new : Expr → Option NameId
expr_new (expr.New class) = Some class
expr_new _ = None

-- the class of which a statement makes an object
abbrev pub new_of : Stmt → Option NameId
new_of (stmt.Assign x e) = expr_new e
new_of _ = None

-- a field that is read or written, and whether as a static one
pub record Access : Type 0 where
  pub sig : FieldSig
  pub is_static : Bool

-- the field that an expression reads, if it reads one
abbrev pub expr_access : Expr → Option Access
expr_access (expr.Field base sig) = Some (record { sig = sig; is_static = false })
expr_access (expr.Static sig) = Some (record { sig = sig; is_static = true })
expr_access _ = None

-- the field that a statement reads or writes
abbrev pub access_of : Stmt → Option Access
access_of (stmt.Assign x e) = expr_access e
access_of (stmt.PutField base sig a) = Some (record { sig = sig; is_static = false })
access_of (stmt.PutStatic sig a) = Some (record { sig = sig; is_static = true })
access_of _ = None

-- the call of a statement, in its parts: any call but `dynamicinvoke`
pub record PlainCall : Type 0 where
  pub mode : Mode
  pub receiver : Option NameId
  pub sig : MethodSig
  pub args : List Imm

-- the call is that of the statement
abbrev pub IsCallOf : Stmt → PlainCall → Type 0
IsCallOf s c = call_of s ≡ Some (Plain c.mode c.receiver c.sig c.args)

-- the statement at an index, with its call
pub record PlainCallAt (m : DeclaredMethod) (index : ℕ) : Type 0 where
  pub stmt : Stmt
  pub here : StmtAt m index stmt
  pub call : PlainCall
  pub is_call : IsCallOf stmt call
