-- Which methods a run may reach: the least set with the root and the targets of calls, together with the initializers that the root calls.
use Rattle.std.specs.Prelude.{◌≡◌, ℕ, ◌⊎◌, ◌↔◌, ◌++◌, List, [], ◌∷◌, Some, true, slice_get}
use Rattle.class_rules.specs.Lookups.{own_body}
use Rattle.class_rules.specs.Rows.{Sub}
use Rattle.class_rules.specs.declared.rows.BodyKind.TheVariants.{Plain}
use Rattle.lists.specs.Lists.{Has, AreIncreasing}
use Rattle.jim_ast.specs.declared.syntax.Mode.TheVariants.{Static}
use Rattle.jim_ast.specs.declared.syntax.Stmt.TheVariants as stmt
use Rattle.link_rules.specs.declared.refusal.LinkKind.{LinkKind}
use Rattle.link_rules.specs.declared.refusal.LinkKind.TheVariants as rule
use Rattle.link_rules.specs.Classes.{DeclaredMethod, IsNamed, methods_of}
use Rattle.link_rules.specs.Faults.{AccessAt, CallsAmbiguous, CallsDynamically, CallsIn, CallsNative, CallsReflection, CallsUndeclared, FindsNoField, HandlesAtEnd, HasLocalTwice, HasWrongArguments, IsEmpty, JumpsNowhere, MakesObject, MakesAbstract, LacksFirstSize, NamesNoClass, NamesNoLocal, NamesNoParam, NamesNoReceiver, RepeatsLabel, RunsOff, TakesNoResult, TrapsNoClass, TrapsNowhere, UsesThreads}
use Rattle.link_rules.specs.Keys.{IsMethodKeyNumber, MethodKey}
use Rattle.link_rules.specs.Names.{text_of}
use Rattle.link_rules.specs.Root.{initializer_key, root_number, root_of}
use Rattle.link_rules.specs.Statements.{StmtAt}
use Rattle.link_rules.specs.Targets.{Calls}
use Rattle.link_rules.specs.World.{World, body_kind}

-- a rule refuses the method at the index
abbrev pub RefusesAt : World → DeclaredMethod → ℕ → LinkKind → Type 0
RefusesAt w m index rule.DuplicateLocal = HasLocalTwice m index
RefusesAt w m index rule.DuplicateLabel = RepeatsLabel m index
RefusesAt w m index rule.UnknownLabel = JumpsNowhere m index ⊎ TrapsNowhere m index
RefusesAt w m index rule.FallsOff = RunsOff m index ⊎ HandlesAtEnd m index ⊎ IsEmpty m index
RefusesAt w m index rule.UnknownLocal = NamesNoLocal m index
RefusesAt w m index rule.BadIdentity = NamesNoReceiver m index ⊎ NamesNoParam m index
RefusesAt w m index rule.DynamicInvoke = CallsDynamically m index
RefusesAt w m index rule.Reflection = CallsReflection m index
RefusesAt w m index rule.Threads = UsesThreads w m index
RefusesAt w m index rule.RetStatement = StmtAt m index stmt.Ret
RefusesAt w m index rule.NestedArray = LacksFirstSize m index
RefusesAt w m index rule.UnknownClass = NamesNoClass w m index ⊎ TrapsNoClass w m index
RefusesAt w m index rule.UnknownField = FindsNoField w m index
RefusesAt w m index rule.AbstractNew = MakesAbstract w m index
RefusesAt w m index rule.UndeclaredCallee = CallsUndeclared w m index
RefusesAt w m index rule.BadArguments = HasWrongArguments m index ⊎ TakesNoResult m index
RefusesAt w m index rule.NativeCallee = CallsNative w m index
RefusesAt w m index rule.AmbiguousDefault = CallsAmbiguous w m index
RefusesAt w m index rule.DuplicateClass = ⊥
RefusesAt w m index rule.UnknownParent = ⊥
RefusesAt w m index rule.CyclicClass = ⊥
RefusesAt w m index rule.NoEntry = ⊥

-- the rules that take a call its targets where they refuse it
abbrev pub TakesTargets : LinkKind → Type 0
TakesTargets rule.UnknownLocal = Unit {0}
TakesTargets rule.DynamicInvoke = Unit {0}
TakesTargets rule.Reflection = Unit {0}
TakesTargets rule.Threads = Unit {0}
TakesTargets rule.UnknownClass = Unit {0}
TakesTargets rule.UndeclaredCallee = Unit {0}
TakesTargets rule.BadArguments = Unit {0}
TakesTargets rule.NativeCallee = Unit {0}
TakesTargets rule.AmbiguousDefault = Unit {0}
TakesTargets rule.DuplicateClass = ⊥
TakesTargets rule.UnknownParent = ⊥
TakesTargets rule.CyclicClass = ⊥
TakesTargets rule.NoEntry = ⊥
TakesTargets rule.DuplicateLocal = ⊥
TakesTargets rule.DuplicateLabel = ⊥
TakesTargets rule.UnknownLabel = ⊥
TakesTargets rule.FallsOff = ⊥
TakesTargets rule.BadIdentity = ⊥
TakesTargets rule.RetStatement = ⊥
TakesTargets rule.NestedArray = ⊥
TakesTargets rule.UnknownField = ⊥
TakesTargets rule.AbstractNew = ⊥

-- the call at the index has this target: it may run the method, and no such rule refuses it. What a call may run has a body or is native, so
-- each target has a body
pub record IsTarget (w : World) (m : DeclaredMethod) (index row : ℕ) : Type 0 where
  pub calls : Calls w m index row
  pub allowed : (kind : LinkKind) → TakesTargets kind → RefusesAt w m index kind → ⊥

-- the statement at the index names this class by `new`, by a static field or by a static call, whether a rule refuses it or not
abbrev pub Touches : DeclaredMethod → ℕ → List ℕ → Type 0
Touches m index name = MakesObject m index name
    ⊎ ((a : AccessAt m index) × (a.access.is_static ≡ true) × (text_of m.names a.access.sig.class ≡ name))
    ⊎ ((c : CallsIn m index name) × (c.at.call.mode ≡ Static))

-- the method asks that the class be initialized: it names the class, or one below it
pub record AsksFor (w : World) (m : DeclaredMethod) (class : ℕ) : Type 0 where
  pub index : ℕ
  pub name : List ℕ
  pub touches : Touches m index name
  pub touched : ℕ
  pub is_touched : IsNamed w.classes name touched
  pub below : Sub w.rows touched class

-- the class itself declares a method of this key that has a body
pub record DeclaresBody (w : World) (class : ℕ) (key : MethodKey) (row : ℕ) : Type 0 where
  pub number : ℕ
  pub is_number : IsMethodKeyNumber (methods_of w.classes) key number
  pub own : own_body w.rows.methods class number ≡ Some row
  pub method : DeclaredMethod
  pub there : slice_get (methods_of w.classes) row ≡ Some method
  pub plain : body_kind method ≡ Plain

-- a method by its number: those of classes, and behind them the root as it is before it initializes any class
abbrev pub IsMethod : World → ℕ → DeclaredMethod → Type 0
IsMethod w number m = slice_get (methods_of w.classes ++ root_of w [] ∷ []) number ≡ Some m

mutual
  -- the methods that a run may reach, by their numbers: the two sets grow together from the root that initializes no class
  pub data Reached (w : World) : ℕ → Type 0 where
    root : Reached w (root_number w)
    called : {number index row : ℕ} {m : DeclaredMethod} → Reached w number → IsMethod w number m → IsTarget w m index row → Reached w row
    initialized : {class index row : ℕ} → IsInitialized w class → IsTarget w (root_of w (class ∷ [])) index row → Reached w row

  -- the class is to be initialized: it declares an initializer with a body, and a method that is reached asks for it
  pub data IsInitialized (w : World) : ℕ → Type 0 where
    asked : {class row number : ℕ} {m : DeclaredMethod} → DeclaresBody w class initializer_key row → Reached w number → IsMethod w number m
        → AsksFor w m class → IsInitialized w class

-- the classes to be initialized, in class order
pub record AreInitialized (w : World) (classes : List ℕ) : Type 0 where
  pub ordered : AreIncreasing classes
  pub each : (class : ℕ) → Has classes class ↔ IsInitialized w class
