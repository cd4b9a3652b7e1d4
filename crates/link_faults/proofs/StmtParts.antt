-- The parts of a statement, as options and as the definitions of linking have them.
use Rattle.std.proofs.Common.{◌≡◌, zero, suc, ◌⊎◌, ◌++◌, Option, None, Some, List, [], ◌∷◌, refl, sym, ap, ◌∙◌, subst, inl, inr}
use Rattle.std.specs.Prelude.{IsSomeAnd, option_and_then}
use Rattle.std.specs.List.{cons_option, filter_map}
use Rattle.std.specs.Option.{option_to_list}
use Rattle.lists.specs.Lists.{Has}
use Rattle.lists.proofs.Joined.{Has-either, Has-left, Has-right}
use Rattle.jim_ast.specs.declared.names.NameId.{NameId}
use Rattle.jim_ast.specs.declared.syntax.Expr.{Expr}
use Rattle.jim_ast.specs.declared.syntax.Expr.TheVariants as expr
use Rattle.jim_ast.specs.declared.syntax.Imm.{Imm}
use Rattle.jim_ast.specs.declared.syntax.Imm.TheVariants as imm
use Rattle.jim_ast.specs.declared.syntax.Invoke.{Invoke}
use Rattle.jim_ast.specs.declared.syntax.Invoke.TheVariants.{Plain, Dynamic}
use Rattle.jim_ast.specs.declared.syntax.Stmt.{Stmt}
use Rattle.jim_ast.specs.declared.syntax.Stmt.TheVariants as stmt
use Rattle.link_rules.specs.Statements.{IsCallOf, PlainCall, call_base, call_of, expr_base, locals_beside_operands, locals_of, operand_local, operands}
use Rattle.link_faults.specs.Parts.{assigned_of, base_of, call_base_of, expr_base_of, plain_call, plain_of}
use Rattle.link_faults.specs.Sites.{HasMissingLocal, HasMissingOperand, IsMissing}

-- a value of which a fact holds
pub some_and : {X : Type 0} (o : Option X) (P : X → Type 0) → IsSomeAnd o P → (x : X) × (o ≡ Some x) × P x
some_and (Some x) P h = (x, refl, h)
some_and None P h = absurd h

pub and_some : {X : Type 0} (o : Option X) (P : X → Type 0) (x : X) → o ≡ Some x → P x → IsSomeAnd o P
and_some o P x is h = subst (λ q. IsSomeAnd q P) (sym is) h

-- the plain call of a statement
pub is_call_of : (s : Stmt) (c : PlainCall) → plain_call s ≡ Some c → IsCallOf s c
is_call_of s c is = by (call_of s) refl is
  where
    by : (o : Option Invoke) → call_of s ≡ o → option_and_then plain_of o ≡ Some c → IsCallOf s c
    by None at e = cc (e)
    by (Some Dynamic) at e = cc (e)
    by (Some (Plain mode receiver sig args)) at e =
        let same : record { mode = mode; receiver = receiver; sig = sig; args = args } ≡ c = cc (e) in
        at ∙ ap (λ (c : PlainCall). Some (Plain c.mode c.receiver c.sig c.args)) same

pub plain_call_is : (s : Stmt) (c : PlainCall) → IsCallOf s c → plain_call s ≡ Some c
plain_call_is s c is = ap (option_and_then plain_of) is

module _ {X : Type 0} where
  pub Has-one : (y x : X) → Has (y ∷ []) x → x ≡ y
  Has-one y x (zero, e) = cc (e)
  Has-one y x (suc i, e) = cc (e)

-- the locals among operands
local_operand : (a : Imm) (x : NameId) → operand_local a ≡ Some x → a ≡ imm.Local x
local_operand (imm.Local y) x e = let same : y ≡ x = cc (e) in ap imm.Local same
local_operand _ x e = cc (e)

from_operands : (args : List Imm) (x : NameId) → Has (filter_map operand_local args) x → Has args (imm.Local x)
from_operands [] x (i, e) = cc (e)
from_operands (a ∷ args) x h = by (operand_local a) refl (λ k. from_operands args x k) h
  where
    by : (o : Option NameId) → operand_local a ≡ o → (Has (filter_map operand_local args) x → Has args (imm.Local x)) → Has (cons_option o (filter_map operand_local args)) x → Has (a ∷ args) (imm.Local x)
    by None at rest h = let k = rest h in (suc k.0, k.1)
    by (Some y) at rest (zero, e) = let same : y ≡ x = cc (e) in (zero, ap Some (local_operand a x (at ∙ ap Some same)))
    by (Some y) at rest (suc i, e) = let k = rest (i, e) in (suc k.0, k.1)

to_operands : (args : List Imm) (x : NameId) → Has args (imm.Local x) → Has (filter_map operand_local args) x
to_operands [] x (i, e) = cc (e)
to_operands (a ∷ args) x (zero, e) = let same : a ≡ imm.Local x = cc (e) in subst (λ b. Has (cons_option (operand_local b) (filter_map operand_local args)) x) (sym same) (zero, refl)
to_operands (a ∷ args) x (suc i, e) = by (operand_local a) (to_operands args x (i, e))
  where
    by : (o : Option NameId) → Has (filter_map operand_local args) x → Has (cons_option o (filter_map operand_local args)) x
    by None h = h
    by (Some y) h = (suc h.0, h.1)

-- the locals beside operands are the one that is assigned and the one whose object is read, written or called
invoke_base : (i : Invoke) → call_base i ≡ option_to_list (call_base_of i)
invoke_base (Plain mode receiver sig args) = refl
invoke_base Dynamic = refl

of_expr : (e : Expr) → expr_base e ≡ option_to_list (expr_base_of e)
of_expr (expr.Field base sig) = refl
of_expr (expr.Cell base) = refl
of_expr (expr.Invoke call) = invoke_base call
of_expr (expr.Use a) = refl
of_expr (expr.New class) = refl
of_expr (expr.NewArray ty) = refl
of_expr (expr.NewMulti ty sized) = refl
of_expr (expr.Cast ty a) = refl
of_expr (expr.Length a) = refl
of_expr (expr.Numeric divides) = refl
of_expr (expr.Static sig) = refl

beside : (s : Stmt) → locals_beside_operands s ≡ option_to_list (assigned_of s) ++ option_to_list (base_of s)
beside (stmt.This x) = refl
beside (stmt.Param x number) = refl
beside (stmt.Caught x) = refl
beside (stmt.Assign x e) = ap (λ ys. x ∷ ys) (of_expr e)
beside (stmt.PutField base sig a) = refl
beside (stmt.PutStatic sig a) = refl
beside (stmt.PutCell base a) = refl
beside (stmt.Call call) = invoke_base call
beside (stmt.If label) = refl
beside (stmt.Goto label) = refl
beside (stmt.Switch labels) = refl
beside (stmt.Return a) = refl
beside (stmt.Throw a) = refl
beside (stmt.Monitor a) = refl
beside stmt.Skip = refl
beside stmt.Ret = refl

in_option : {X : Type 0} (o : Option X) (P : X → Type 0) (x : X) → Has (option_to_list o) x → P x → IsSomeAnd o P
in_option (Some y) P x h p = subst P (Has-one y x h) p
in_option None P x (i, e) p = cc (e)

from_option : {X : Type 0} (o : Option X) (P : X → Type 0) → IsSomeAnd o P → (x : X) × Has (option_to_list o) x × P x
from_option (Some y) P p = (y, (zero, refl), p)
from_option None P p = absurd p

module _ (locals : List NameId) (s : Stmt) where
  -- one of a statement's locals isn't declared, by its parts
  pub missing_by_parts : (x : NameId) → Has (locals_of s) x → IsMissing locals x → HasMissingLocal locals s
  missing_by_parts x named missing = elim (Has-either (locals_beside_operands s) (filter_map operand_local (operands s)) x named) [
    | inl h ↦ elim (Has-either (option_to_list (assigned_of s)) (option_to_list (base_of s)) x (subst (λ (xs : List NameId). Has xs x) (beside s) h)) [
      | inl a ↦ inl (in_option (assigned_of s) (IsMissing locals) x a missing)
      | inr b ↦ inr (inl (in_option (base_of s) (IsMissing locals) x b missing))
    ]
    | inr h ↦ inr (inr (imm.Local x, from_operands (operands s) x h, missing))
  ]

  from_beside : (x : NameId) → Has (option_to_list (assigned_of s) ++ option_to_list (base_of s)) x → Has (locals_of s) x
  from_beside x h = Has-left (locals_beside_operands s) (filter_map operand_local (operands s)) x (subst (λ (xs : List NameId). Has xs x) (sym (beside s)) h)

  of_operand : (a : Imm) → Has (operands s) a → HasMissingOperand locals a → (x : NameId) × Has (locals_of s) x × IsMissing locals x
  of_operand (imm.Local x) h missing = (x, Has-right (locals_beside_operands s) (filter_map operand_local (operands s)) x (to_operands (operands s) x h), missing)
  of_operand _ h missing = absurd missing

  pub missing_local : HasMissingLocal locals s → (x : NameId) × Has (locals_of s) x × IsMissing locals x
  missing_local (inl h) = let a = from_option (assigned_of s) (IsMissing locals) h in (a.0, from_beside a.0 (Has-left (option_to_list (assigned_of s)) (option_to_list (base_of s)) a.0 a.1), a.2)
  missing_local (inr (inl h)) = let b = from_option (base_of s) (IsMissing locals) h in (b.0, from_beside b.0 (Has-right (option_to_list (assigned_of s)) (option_to_list (base_of s)) b.0 b.1), b.2)
  missing_local (inr (inr h)) = of_operand h.0 h.1 h.2
