-- What has to be there for the code of a statement, part by part. Where no rule refuses the statement, it is.
use Rattle.std.specs.Prelude.{ℕ, ◌<◌, None, Bool, true, false, All, length}
use Rattle.std.specs.Option.{ForSome}
use Rattle.class_rules.specs.Lookups.{FieldOf}
use Rattle.lists.specs.Lists.{Has}
use Rattle.jim_ast.specs.declared.names.NameId.{NameId}
use Rattle.jim_ast.specs.declared.syntax.Expr.{Expr}
use Rattle.jim_ast.specs.declared.syntax.Expr.TheVariants as expr
use Rattle.jim_ast.specs.declared.syntax.FieldSig.{FieldSig}
use Rattle.jim_ast.specs.declared.syntax.Imm.{Imm}
use Rattle.jim_ast.specs.declared.syntax.Imm.TheVariants as imm
use Rattle.jim_ast.specs.declared.syntax.Invoke.{Invoke}
use Rattle.jim_ast.specs.declared.syntax.Invoke.TheVariants.{Plain, Dynamic}
use Rattle.jim_ast.specs.declared.syntax.MethodSig.{MethodSig}
use Rattle.jim_ast.specs.declared.syntax.Mode.{Mode}
use Rattle.jim_ast.specs.declared.syntax.Stmt.{Stmt}
use Rattle.jim_ast.specs.declared.syntax.Stmt.TheVariants as stmt
use Rattle.jim_ast.specs.declared.syntax.Trap.{Trap}
use Rattle.link_rules.specs.Bodies.{IsLabel}
use Rattle.link_rules.specs.Classes.{IsDeclared, IsNamed, fields_of, methods_of}
use Rattle.link_rules.specs.Conditions.{AreWithin, field_sig_names, method_sig_names, type_names}
use Rattle.link_rules.specs.Keys.{IsFieldKeyNumber, IsMethodKeyNumber, accessed_key, called_key}
use Rattle.link_rules.specs.Names.{text_of}
use Rattle.link_rules.specs.Targets.{MayRun}
use Rattle.link_codes.specs.Contexts.{Context}

-- the local is declared
abbrev pub HasLocal : Context → NameId → Type 0
HasLocal c x = Has c.body.locals x

-- the label is there
abbrev pub HasJump : Context → NameId → Type 0
HasJump c label = (index : ℕ) × IsLabel c.body.labels label index

-- the name is one of the program's
abbrev pub HasText : Context → NameId → Type 0
HasText c name = name.0 < length c.names

-- the class is declared
pub record HasClass (c : Context) (name : NameId) : Type 0 where
  pub text : HasText c name
  pub declared : IsDeclared c.world.classes (text_of c.names name)

abbrev pub HasOperand : Context → Imm → Type 0
HasOperand c (imm.Local x) = HasLocal c x
HasOperand c (imm.Text name) = HasText c name
HasOperand c (imm.ClassConst name) = HasText c name
HasOperand c _ = Unit {0}

-- field look-up finds the field
pub record HasField (c : Context) (is_static : Bool) (sig : FieldSig) : Type 0 where
  pub class : HasClass c sig.class
  pub within : AreWithin c.names (field_sig_names sig)
  pub found : (class key : ℕ) → IsNamed c.world.classes (text_of c.names sig.class) class
      → IsFieldKeyNumber (fields_of c.world.classes) (accessed_key c.names is_static sig) key → FieldOf c.world.rows class key None → ⊥

-- each method that the call may run has a number
pub record HasTargets (c : Context) (mode : Mode) (sig : MethodSig) : Type 0 where
  pub class : HasClass c sig.class
  pub within : AreWithin c.names (method_sig_names sig)
  pub numbered : (class key row : ℕ) → IsNamed c.world.classes (text_of c.names sig.class) class
      → IsMethodKeyNumber (methods_of c.world.classes) (called_key c.names mode sig) key → MayRun c.world mode class key row → Has c.method_rows row

abbrev pub HasCall : Context → Invoke → Type 0
HasCall c (Plain mode receiver sig args) = ForSome receiver (HasLocal c) × HasTargets c mode sig × All (HasOperand c) args
HasCall c Dynamic = ⊥

abbrev pub HasExpr : Context → Expr → Type 0
HasExpr c (expr.Use a) = HasOperand c a
HasExpr c (expr.New class) = HasClass c class
HasExpr c (expr.NewArray ty) = AreWithin c.names (type_names ty)
HasExpr c (expr.NewMulti ty sized) = AreWithin c.names (type_names ty)
HasExpr c (expr.Cast ty a) = HasOperand c a
HasExpr c (expr.Length a) = HasOperand c a
HasExpr c (expr.Numeric divides) = Unit {0}
HasExpr c (expr.Field y sig) = HasLocal c y × HasField c false sig
HasExpr c (expr.Static sig) = HasField c true sig
HasExpr c (expr.Cell y) = HasLocal c y
HasExpr c (expr.Invoke call) = HasCall c call

abbrev pub HasParts : Context → Stmt → Type 0
HasParts c (stmt.This x) = HasLocal c x
HasParts c (stmt.Param x number) = HasLocal c x
HasParts c (stmt.Caught x) = HasLocal c x
HasParts c (stmt.Assign x e) = HasLocal c x × HasExpr c e
HasParts c (stmt.PutField y sig a) = HasLocal c y × HasField c false sig × HasOperand c a
HasParts c (stmt.PutStatic sig a) = HasField c true sig × HasOperand c a
HasParts c (stmt.PutCell y a) = HasLocal c y × HasOperand c a
HasParts c (stmt.Call call) = HasCall c call
HasParts c (stmt.If label) = HasJump c label
HasParts c (stmt.Goto label) = HasJump c label
HasParts c (stmt.Switch labels) = All (HasJump c) labels
HasParts c (stmt.Return a) = ForSome a (HasOperand c)
HasParts c (stmt.Throw a) = HasOperand c a
HasParts c (stmt.Monitor a) = HasOperand c a
HasParts c stmt.Skip = Unit {0}
HasParts c stmt.Ret = ⊥

-- the parts of a trap
pub record HasTrap (c : Context) (trap : Trap) : Type 0 where
  pub class : HasClass c trap.class
  pub from : HasJump c trap.from
  pub to : HasJump c trap.to
  pub handler : HasJump c trap.with
