-- What the rules look at in a statement, as options.
use Rattle.std.specs.Prelude.{ℕ, List, Option, Some, None, option_and_then}
use Rattle.jim_ast.specs.declared.names.NameId.{NameId}
use Rattle.jim_ast.specs.declared.syntax.Expr.{Expr}
use Rattle.jim_ast.specs.declared.syntax.Expr.TheVariants as expr
use Rattle.jim_ast.specs.declared.syntax.Invoke.{Invoke}
use Rattle.jim_ast.specs.declared.syntax.Invoke.TheVariants.{Plain, Dynamic}
use Rattle.jim_ast.specs.declared.syntax.Stmt.{Stmt}
use Rattle.jim_ast.specs.declared.syntax.Stmt.TheVariants as stmt
use Rattle.link_rules.specs.Keys.{IsMethodKeyNumber, called_key}
use Rattle.link_rules.specs.Classes.{IsNamed, methods_of}
use Rattle.link_rules.specs.Names.{text_of}
use Rattle.link_rules.specs.Statements.{Access, PlainCall, call_of}
use Rattle.link_rules.specs.World.{World}
use Rattle.link_faults.specs.declared.parts.Accessed.{Accessed}
use Rattle.link_faults.specs.declared.parts.Called.{Called}

-- a call in its parts, if it isn't a `dynamicinvoke`
abbrev pub plain_of : Invoke → Option PlainCall
plain_of (Plain mode receiver sig args) = Some (record { mode = mode; receiver = receiver; sig = sig; args = args })
plain_of Dynamic = None

-- the plain call of a statement
abbrev pub plain_call : Stmt → Option PlainCall
plain_call s = option_and_then plain_of (call_of s)

-- the code's parts as the definitions of linking see them
abbrev pub seen_access : Accessed → Access
seen_access a = record { sig = a.sig; is_static = a.is_static }

abbrev pub seen_call : Called → PlainCall
seen_call c = record { mode = c.mode; receiver = c.receiver; sig = c.sig.now; args = c.args.now }

-- the numbers of the class and of the key that a call names
pub record AreNamed (w : World) (names : List (List ℕ)) (c : PlainCall) (class key : ℕ) : Type 0 where
  pub is_class : IsNamed w.classes (text_of names c.sig.class) class
  pub is_key : IsMethodKeyNumber (methods_of w.classes) (called_key names c.mode c.sig) key

-- the local that a statement assigns
abbrev pub assigned_of : Stmt → Option NameId
assigned_of (stmt.This x) = Some x
assigned_of (stmt.Param x number) = Some x
assigned_of (stmt.Caught x) = Some x
assigned_of (stmt.Assign x e) = Some x
assigned_of _ = None

-- the local that a call is made on
abbrev pub call_base_of : Invoke → Option NameId
call_base_of (Plain mode receiver sig args) = receiver
call_base_of Dynamic = None

-- the local with the object or the array that is read, written or called
abbrev pub expr_base_of : Expr → Option NameId
expr_base_of (expr.Field base sig) = Some base
expr_base_of (expr.Cell base) = Some base
expr_base_of (expr.Invoke call) = call_base_of call
expr_base_of _ = None

abbrev pub base_of : Stmt → Option NameId
base_of (stmt.Assign x e) = expr_base_of e
base_of (stmt.PutField base sig a) = Some base
base_of (stmt.PutCell base a) = Some base
base_of (stmt.Call call) = call_base_of call
base_of _ = None
