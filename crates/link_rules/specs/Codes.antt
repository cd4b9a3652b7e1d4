-- The code of each statement, in which names are numbers.
use Rattle.std.specs.Prelude.{◌≡◌, ℕ, suc, Bool, List, Some, None, true, false, count_by, not, slice_get, take}
use Rattle.class_rules.specs.Lookups.{FieldOf}
use Rattle.jim_ast.specs.declared.names.NameId.{NameId}
use Rattle.jim_ast.specs.declared.syntax.Base.{Base}
use Rattle.jim_ast.specs.declared.syntax.Base.TheVariants as base
use Rattle.jim_ast.specs.declared.syntax.Body.{Body}
use Rattle.jim_ast.specs.declared.syntax.Expr.{Expr}
use Rattle.jim_ast.specs.declared.syntax.Expr.TheVariants as expr
use Rattle.jim_ast.specs.declared.syntax.FieldSig.{FieldSig}
use Rattle.jim_ast.specs.declared.syntax.Imm.{Imm}
use Rattle.jim_ast.specs.declared.syntax.Imm.TheVariants as imm
use Rattle.jim_ast.specs.declared.syntax.Invoke.TheVariants.{Plain}
use Rattle.jim_ast.specs.declared.syntax.MethodSig.{MethodSig}
use Rattle.jim_ast.specs.declared.syntax.Mode.{Mode}
use Rattle.jim_ast.specs.declared.syntax.Stmt.{Stmt}
use Rattle.jim_ast.specs.declared.syntax.Stmt.TheVariants as stmt
use Rattle.jim_ast.specs.declared.syntax.Trap.{Trap}
use Rattle.jim_ast.specs.declared.syntax.Ty.{Ty}
use Rattle.link_rules.specs.declared.code.Arg.{Arg}
use Rattle.link_rules.specs.declared.code.Arg.TheVariants as arg
use Rattle.link_rules.specs.declared.code.Catch.{Catch}
use Rattle.link_rules.specs.declared.code.Code.{Code}
use Rattle.link_rules.specs.declared.code.Code.TheVariants as code
use Rattle.link_rules.specs.Bodies.{IsLabel}
use Rattle.link_rules.specs.Classes.{DeclaredField, IsNamed, fields_of, methods_of}
use Rattle.link_rules.specs.Keys.{IsFieldKeyNumber, IsMethodKeyNumber, accessed_key, called_key}
use Rattle.lists.specs.Lists.{BothOrNone, Each}
use Rattle.link_rules.specs.Names.{text_of}
use Rattle.link_rules.specs.Targets.{AreTargetRows}
use Rattle.link_rules.specs.World.{World}

-- what the code of a method is made over: what is linked, how texts, class constants and methods are numbered, the names of the method's program,
-- and its body
pub record Scope : Type 0 where
  pub world : World
  pub texts : List (List ℕ)
  pub class_texts : List (List ℕ)
  pub method_rows : List ℕ
  pub names : List (List ℕ)
  pub body : Body

-- a local's number, in declared order
abbrev pub IsLocal : Scope → NameId → ℕ → Type 0
IsLocal in_scope x number = slice_get in_scope.body.locals number ≡ Some x

-- the statement that a label stands before
abbrev pub IsJump : Scope → NameId → ℕ → Type 0
IsJump in_scope label index = IsLabel in_scope.body.labels label index

-- a class's number, in class order
abbrev pub IsClass : Scope → NameId → ℕ → Type 0
IsClass in_scope name number = IsNamed in_scope.world.classes (text_of in_scope.names name) number

-- an operand: a text or a class constant by its number among those
abbrev pub IsArg : Scope → Imm → Arg → Type 0
IsArg in_scope (imm.Local x) (arg.Local number) = IsLocal in_scope x number
IsArg in_scope imm.Number arg.Number = Unit {0}
IsArg in_scope imm.Null arg.Null = Unit {0}
IsArg in_scope (imm.Text name) (arg.Text number) = slice_get in_scope.texts number ≡ Some (text_of in_scope.names name)
IsArg in_scope (imm.ClassConst name) (arg.Class number) = slice_get in_scope.class_texts number ≡ Some (text_of in_scope.names name)
IsArg in_scope _ _ = ⊥

-- the number of an instance field, from 1 on in class order: 0 stands for the elements of an array
abbrev pub instance_number : List DeclaredField → ℕ → ℕ
instance_number fields row = suc (count_by (λ f. not f.decl.is_static) (take row fields))

-- the number of a static field, from 0 on in class order
abbrev pub static_number : List DeclaredField → ℕ → ℕ
static_number fields row = count_by (λ f. f.decl.is_static) (take row fields)

-- field look-up from the class that is named finds the field with this place among all fields
pub record FindsField (in_scope : Scope) (static_flag : Bool) (sig : FieldSig) (row : ℕ) : Type 0 where
  pub class : ℕ
  pub is_class : IsClass in_scope sig.class class
  pub key : ℕ
  pub is_key : IsFieldKeyNumber (fields_of in_scope.world.classes) (accessed_key in_scope.names static_flag sig) key
  pub finds : FieldOf in_scope.world.rows class key (Some row)

-- the instance field that is found
abbrev pub IsField : Scope → FieldSig → ℕ → Type 0
IsField in_scope sig number = (row : ℕ) × FindsField in_scope false sig row × (number ≡ instance_number (fields_of in_scope.world.classes) row)

-- the static field that is found
abbrev pub IsStatic : Scope → FieldSig → ℕ → Type 0
IsStatic in_scope sig number = (row : ℕ) × FindsField in_scope true sig row × (number ≡ static_number (fields_of in_scope.world.classes) row)

-- a method's number among those that a run may reach
abbrev pub IsMethodNumber : Scope → ℕ → ℕ → Type 0
IsMethodNumber in_scope row number = slice_get in_scope.method_rows number ≡ Some row

-- a call: the class and the key that it names, its operands, and its targets in order
pub record IsCall (in_scope : Scope) (mode : Mode) (sig : MethodSig) (args : List Imm)
    (class key : ℕ) (codes : List Arg) (targets : List ℕ) : Type 0 where
  pub is_class : IsClass in_scope sig.class class
  pub is_key : IsMethodKeyNumber (methods_of in_scope.world.classes) (called_key in_scope.names mode sig) key
  pub are_args : Each (IsArg in_scope) args codes
  pub rows : List ℕ
  pub are_rows : AreTargetRows in_scope.world mode class key rows
  pub numbered : Each (IsMethodNumber in_scope) rows targets

-- a type that isn't a class and has no brackets
abbrev pub IsPrimitiveBase : Base → Type 0
IsPrimitiveBase base.Boolean = Unit {0}
IsPrimitiveBase base.Byte = Unit {0}
IsPrimitiveBase base.Short = Unit {0}
IsPrimitiveBase base.Char = Unit {0}
IsPrimitiveBase base.Int = Unit {0}
IsPrimitiveBase base.Long = Unit {0}
IsPrimitiveBase base.Float = Unit {0}
IsPrimitiveBase base.Double = Unit {0}
IsPrimitiveBase _ = ⊥

-- a type of numbers, without brackets
abbrev pub IsPrimitive : Ty → Type 0
IsPrimitive ty = IsPrimitiveBase ty.base × (ty.dims ≡ 0)

-- the code of an assignment of an expression to a local. A cast to a primitive type is a copy
abbrev pub IsAssignment : Scope → NameId → Expr → Code → Type 0
IsAssignment in_scope x (expr.Use a) (code.Copy to b) = IsLocal in_scope x to × IsArg in_scope a b
IsAssignment in_scope x (expr.New class) (code.New to number) = IsLocal in_scope x to × IsClass in_scope class number
IsAssignment in_scope x (expr.NewArray ty) (code.NewArray to) = IsLocal in_scope x to
IsAssignment in_scope x (expr.NewMulti ty sized) (code.NewMulti to levels) = IsLocal in_scope x to × (levels ≡ sized)
IsAssignment in_scope x (expr.Cast ty a) (code.Cast to b) = IsLocal in_scope x to × IsArg in_scope a b × (IsPrimitive ty → ⊥)
IsAssignment in_scope x (expr.Cast ty a) (code.Copy to b) = IsLocal in_scope x to × IsArg in_scope a b × IsPrimitive ty
IsAssignment in_scope x (expr.Length a) (code.Length to b) = IsLocal in_scope x to × IsArg in_scope a b
IsAssignment in_scope x (expr.Numeric divides) (code.Numeric to divides_too) = IsLocal in_scope x to × (divides_too ≡ divides)
IsAssignment in_scope x (expr.Field y sig) (code.Load to base field) = IsLocal in_scope x to × IsLocal in_scope y base × IsField in_scope sig field
IsAssignment in_scope x (expr.Static sig) (code.LoadStatic to field) = IsLocal in_scope x to × IsStatic in_scope sig field
IsAssignment in_scope x (expr.Cell y) (code.LoadCell to base) = IsLocal in_scope x to × IsLocal in_scope y base
IsAssignment in_scope x (expr.Invoke (Plain mode y sig args)) (code.Call (Some to) mode_too class key receiver codes targets) =
    IsLocal in_scope x to × (mode_too ≡ mode) × BothOrNone (IsLocal in_scope) y receiver × IsCall in_scope mode sig args class key codes targets
IsAssignment in_scope _ (expr.Use _) _ = ⊥
IsAssignment in_scope _ (expr.New _) _ = ⊥
IsAssignment in_scope _ (expr.NewArray _) _ = ⊥
IsAssignment in_scope _ (expr.NewMulti _ _) _ = ⊥
IsAssignment in_scope _ (expr.Cast _ _) _ = ⊥
IsAssignment in_scope _ (expr.Length _) _ = ⊥
IsAssignment in_scope _ (expr.Numeric _) _ = ⊥
IsAssignment in_scope _ (expr.Field _ _) _ = ⊥
IsAssignment in_scope _ (expr.Static _) _ = ⊥
IsAssignment in_scope _ (expr.Cell _) _ = ⊥
IsAssignment in_scope _ (expr.Invoke _) _ = ⊥

-- the code of a statement
abbrev pub IsCode : Scope → Stmt → Code → Type 0
IsCode in_scope (stmt.This x) (code.This to) = IsLocal in_scope x to
IsCode in_scope (stmt.Param x number) (code.Param to number_too) = IsLocal in_scope x to × (number_too ≡ number)
IsCode in_scope (stmt.Caught x) (code.Caught to) = IsLocal in_scope x to
IsCode in_scope (stmt.Assign x e) c = IsAssignment in_scope x e c
IsCode in_scope (stmt.PutField y sig a) (code.Store base field b) = IsLocal in_scope y base × IsField in_scope sig field × IsArg in_scope a b
IsCode in_scope (stmt.PutStatic sig a) (code.StoreStatic field b) = IsStatic in_scope sig field × IsArg in_scope a b
IsCode in_scope (stmt.PutCell y a) (code.StoreCell base b) = IsLocal in_scope y base × IsArg in_scope a b
IsCode in_scope (stmt.Call (Plain mode y sig args)) (code.Call None mode_too class key receiver codes targets) =
    (mode_too ≡ mode) × BothOrNone (IsLocal in_scope) y receiver × IsCall in_scope mode sig args class key codes targets
IsCode in_scope (stmt.If label) (code.If jump) = IsJump in_scope label jump
IsCode in_scope (stmt.Goto label) (code.Goto jump) = IsJump in_scope label jump
IsCode in_scope (stmt.Switch labels) (code.Switch jumps) = Each (IsJump in_scope) labels jumps
IsCode in_scope (stmt.Return a) (code.Return b) = BothOrNone (IsArg in_scope) a b
IsCode in_scope (stmt.Throw a) (code.Throw b) = IsArg in_scope a b
IsCode in_scope (stmt.Monitor a) (code.Monitor b) = IsArg in_scope a b
IsCode in_scope stmt.Skip code.Skip = Unit {0}
IsCode in_scope _ _ = ⊥

-- the handler of a trap
pub record IsCatch (in_scope : Scope) (trap : Trap) (catch : Catch) : Type 0 where
  pub class : IsClass in_scope trap.class catch.class
  pub from : IsJump in_scope trap.from catch.from
  pub to : IsJump in_scope trap.to catch.to
  pub handler : IsJump in_scope trap.with catch.handler
