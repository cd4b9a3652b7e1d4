-- What refuses a statement where it stands, with the statement given: the rules of statements, each as a fact of its parts.
use Rattle.std.specs.Prelude.{◌≡◌, ◌≢◌, ℕ, ◌≤◌, ◌⊎◌, List, Some, None, IsSomeAnd, true, length, slice_get}
use Rattle.class_rules.specs.Lookups.{FieldOf}
use Rattle.lists.specs.Lists.{Has}
use Rattle.jim_ast.specs.declared.names.NameId.{NameId}
use Rattle.jim_ast.specs.declared.syntax.Base.TheVariants as base
use Rattle.jim_ast.specs.declared.syntax.Body.{Body}
use Rattle.jim_ast.specs.declared.syntax.Expr.{Expr}
use Rattle.jim_ast.specs.declared.syntax.Expr.TheVariants as expr
use Rattle.jim_ast.specs.declared.syntax.Imm.{Imm}
use Rattle.jim_ast.specs.declared.syntax.Imm.TheVariants as imm
use Rattle.jim_ast.specs.declared.syntax.Invoke.{Invoke}
use Rattle.jim_ast.specs.declared.syntax.Invoke.TheVariants.{Plain, Dynamic}
use Rattle.jim_ast.specs.declared.syntax.Label.{Label}
use Rattle.jim_ast.specs.declared.syntax.MethodDecl.{MethodDecl}
use Rattle.jim_ast.specs.declared.syntax.Stmt.{Stmt}
use Rattle.jim_ast.specs.declared.syntax.Stmt.TheVariants as stmt
use Rattle.class_rules.specs.declared.rows.BodyKind.TheVariants.{Native}
use Rattle.link_rules.specs.declared.refusal.LinkKind.{LinkKind}
use Rattle.link_rules.specs.declared.refusal.LinkKind.TheVariants as rule
use Rattle.link_rules.specs.Bodies.{HasNoLabel, IsLabel, MayFollow}
use Rattle.link_rules.specs.Classes.{DeclaredMethod, IsDeclared, IsNamed, fields_of, methods_of}
use Rattle.link_rules.specs.Faults.{FindsNone, FindsSeveral, IsOfThreads, IsReflective}
use Rattle.link_rules.specs.Keys.{IsFieldKeyNumber, accessed_key}
use Rattle.link_rules.specs.Names.{text_of}
use Rattle.link_rules.specs.Statements.{Access, PlainCall, access_of, call_of, labels_of, new_of, operands}
use Rattle.link_rules.specs.Targets.{MayRun}
use Rattle.link_rules.specs.World.{World, body_kind}
use Rattle.link_faults.specs.Parts.{AreNamed, assigned_of, base_of, plain_call}

-- one of the labels isn't there
abbrev pub HasMissingLabel : List Label → List NameId → Type 0
HasMissingLabel labels named = (label : NameId) × Has named label × HasNoLabel labels label

-- one of the labels stands there
abbrev pub HasLabelAt : List Label → List NameId → ℕ → Type 0
HasLabelAt labels named index = (label : NameId) × Has named label × IsLabel labels label index

-- the local isn't declared
abbrev pub IsMissing : List NameId → NameId → Type 0
IsMissing locals local = Has locals local → ⊥

-- the operand is a local that isn't declared
abbrev pub HasMissingOperand : List NameId → Imm → Type 0
HasMissingOperand locals (imm.Local local) = IsMissing locals local
HasMissingOperand locals _ = ⊥

-- one of the operands is such a local
abbrev pub HasMissingIn : List NameId → List Imm → Type 0
HasMissingIn locals args = (a : Imm) × Has args a × HasMissingOperand locals a

-- a local that the statement assigns, whose object it reads, writes or calls, or that is an operand, isn't declared
abbrev pub HasMissingLocal : List NameId → Stmt → Type 0
HasMissingLocal locals s = IsSomeAnd (assigned_of s) (IsMissing locals) ⊎ IsSomeAnd (base_of s) (IsMissing locals) ⊎ HasMissingIn locals (operands s)

-- a receiver or a parameter that the method doesn't have
abbrev pub IsBadIdentity : MethodDecl → Stmt → Type 0
IsBadIdentity decl (stmt.This x) = decl.is_static ≡ true
IsBadIdentity decl (stmt.Param x number) = length decl.params ≤ number
IsBadIdentity decl _ = ⊥

-- a `newmultiarray` without a size in its first pair of brackets
abbrev pub IsUnsizedExpr : Expr → Type 0
IsUnsizedExpr (expr.NewMulti ty sized) = sized ≡ 0
IsUnsizedExpr _ = ⊥

abbrev pub IsUnsized : Stmt → Type 0
IsUnsized (stmt.Assign x e) = IsUnsizedExpr e
IsUnsized _ = ⊥

-- a `ret`
abbrev pub IsRet : Stmt → Type 0
IsRet stmt.Ret = Unit {0}
IsRet _ = ⊥

-- a call of a method without a result
abbrev pub IsVoidCall : Invoke → Type 0
IsVoidCall (Plain mode receiver sig args) = sig.result.base ≡ base.Void
IsVoidCall Dynamic = ⊥

abbrev pub IsVoidExpr : Expr → Type 0
IsVoidExpr (expr.Invoke call) = IsVoidCall call
IsVoidExpr _ = ⊥

-- a local is assigned the result of a method that has none
abbrev pub AssignsVoid : Stmt → Type 0
AssignsVoid (stmt.Assign x e) = IsVoidExpr e
AssignsVoid _ = ⊥

-- a method of a class of reflection is called
abbrev pub IsReflection : List (List ℕ) → Stmt → Type 0
IsReflection names s = IsSomeAnd (plain_call s) (λ c. IsReflective (text_of names c.sig.class))

-- a class of threads is made or called
abbrev pub IsThreads : World → List (List ℕ) → Stmt → Type 0
IsThreads w names s = IsSomeAnd (new_of s) (λ class. IsOfThreads w (text_of names class))
    ⊎ IsSomeAnd (plain_call s) (λ c. IsOfThreads w (text_of names c.sig.class))

-- the class isn't declared
abbrev pub IsUndeclared : World → List (List ℕ) → NameId → Type 0
IsUndeclared w names class = IsDeclared w.classes (text_of names class) → ⊥

-- a class that isn't declared is made, accessed or called
abbrev pub HasUndeclared : World → List (List ℕ) → Stmt → Type 0
HasUndeclared w names s = IsSomeAnd (new_of s) (IsUndeclared w names)
    ⊎ IsSomeAnd (plain_call s) (λ c. IsUndeclared w names c.sig.class)
    ⊎ IsSomeAnd (access_of s) (λ a. IsUndeclared w names a.sig.class)

-- field look-up from the class that the access names finds none
pub record FindsNo (w : World) (names : List (List ℕ)) (a : Access) : Type 0 where
  pub class : ℕ
  pub is_class : IsNamed w.classes (text_of names a.sig.class) class
  pub key : ℕ
  pub is_key : IsFieldKeyNumber (fields_of w.classes) (accessed_key names a.is_static a.sig) key
  pub none : FieldOf w.rows class key None

-- the class can't have objects
pub record IsNotConcrete (w : World) (name : List ℕ) : Type 0 where
  pub number : ℕ
  pub named : IsNamed w.classes name number
  pub not_concrete : (named.class.class.interface ≡ true) ⊎ (named.class.class.is_abstract ≡ true)

-- the method that the call names isn't declared
abbrev pub IsUndeclaredCall : World → List (List ℕ) → PlainCall → Type 0
IsUndeclaredCall w names c = (class : ℕ) × (key : ℕ) × AreNamed w names c class key × FindsNone w c.mode class key

-- several default methods are there for the call
abbrev pub IsAmbiguousCall : World → List (List ℕ) → PlainCall → Type 0
IsAmbiguousCall w names c = (class : ℕ) × (key : ℕ) × AreNamed w names c class key × FindsSeveral w c.mode class key

-- the call may run this method
abbrev pub RunsRow : World → List (List ℕ) → PlainCall → ℕ → Type 0
RunsRow w names c row = (class : ℕ) × (key : ℕ) × AreNamed w names c class key × MayRun w c.mode class key row

-- the method with this number is native
abbrev pub IsNativeRow : World → ℕ → Type 0
IsNativeRow w row = (callee : DeclaredMethod) × (slice_get (methods_of w.classes) row ≡ Some callee) × (body_kind callee ≡ Native)

-- the call may run a native method
abbrev pub RunsNative : World → List (List ℕ) → PlainCall → Type 0
RunsNative w names c = (row : ℕ) × RunsRow w names c row × IsNativeRow w row

-- a call has more or fewer arguments than parameters
abbrev pub HasWrongCount : PlainCall → Type 0
HasWrongCount c = length c.args ≢ length c.sig.params

-- a rule refuses the statement
abbrev pub RefusesStmt : World → DeclaredMethod → Body → ℕ → Stmt → LinkKind → Type 0
RefusesStmt w m body index s rule.UnknownLabel = HasMissingLabel body.labels (labels_of s)
RefusesStmt w m body index s rule.FallsOff = MayFollow body s index (length body.stmts)
RefusesStmt w m body index s rule.UnknownLocal = HasMissingLocal body.locals s
RefusesStmt w m body index s rule.BadIdentity = IsBadIdentity m.decl s
RefusesStmt w m body index s rule.DynamicInvoke = call_of s ≡ Some Dynamic
RefusesStmt w m body index s rule.Reflection = IsReflection m.names s
RefusesStmt w m body index s rule.Threads = IsThreads w m.names s
RefusesStmt w m body index s rule.RetStatement = IsRet s
RefusesStmt w m body index s rule.NestedArray = IsUnsized s
RefusesStmt w m body index s rule.UnknownClass = HasUndeclared w m.names s
RefusesStmt w m body index s rule.UnknownField = IsSomeAnd (access_of s) (FindsNo w m.names)
RefusesStmt w m body index s rule.AbstractNew = IsSomeAnd (new_of s) (λ class. IsNotConcrete w (text_of m.names class))
RefusesStmt w m body index s rule.UndeclaredCallee = IsSomeAnd (plain_call s) (IsUndeclaredCall w m.names)
RefusesStmt w m body index s rule.BadArguments = IsSomeAnd (plain_call s) HasWrongCount ⊎ AssignsVoid s
RefusesStmt w m body index s rule.NativeCallee = IsSomeAnd (plain_call s) (RunsNative w m.names)
RefusesStmt w m body index s rule.AmbiguousDefault = IsSomeAnd (plain_call s) (IsAmbiguousCall w m.names)
RefusesStmt w m body index s rule.DuplicateClass = ⊥
RefusesStmt w m body index s rule.UnknownParent = ⊥
RefusesStmt w m body index s rule.CyclicClass = ⊥
RefusesStmt w m body index s rule.NoEntry = ⊥
RefusesStmt w m body index s rule.DuplicateLocal = ⊥
RefusesStmt w m body index s rule.DuplicateLabel = ⊥
