-- What refuses a method at an index, a rule at a time. These rules are this project's own: they mark where the profile of Jimple that is
-- analysed ends, or where a name has no meaning.
use Rattle.std.specs.Prelude.{◌≡◌, ◌≢◌, ℕ, ◌<◌, ◌≤◌, ◌⊎◌, List, [], Option, Some, None, true, IsTrue, codes, length, nat_eq, slice_get}
use Rattle.std.specs.List.{starts_with}
use Rattle.class_rules.specs.Lookups.{Declared, FieldOf, IsAmbiguous, OnPath, Resolve}
use Rattle.class_rules.specs.Rows.{Sub}
use Rattle.class_rules.specs.declared.rows.BodyKind.TheVariants.{Native}
use Rattle.lists.specs.Lists.{Has, IsRepeated}
use Rattle.jim_ast.specs.declared.names.NameId.{NameId}
use Rattle.jim_ast.specs.declared.syntax.Base.TheVariants as base
use Rattle.jim_ast.specs.declared.syntax.Body.{Body}
use Rattle.jim_ast.specs.declared.syntax.Expr.TheVariants as expr
use Rattle.jim_ast.specs.declared.syntax.Imm.{Imm}
use Rattle.jim_ast.specs.declared.syntax.Invoke.TheVariants.{Plain, Dynamic}
use Rattle.jim_ast.specs.declared.syntax.Label.{Label}
use Rattle.jim_ast.specs.declared.syntax.MethodSig.{MethodSig}
use Rattle.jim_ast.specs.declared.syntax.Mode.{Mode}
use Rattle.jim_ast.specs.declared.syntax.Mode.TheVariants.{Special, Virtual, Interface, Static}
use Rattle.jim_ast.specs.declared.syntax.Stmt.{Stmt}
use Rattle.jim_ast.specs.declared.syntax.Stmt.TheVariants as stmt
use Rattle.jim_ast.specs.declared.syntax.Trap.{Trap}
use Rattle.jim_ast.specs.declared.syntax.Ty.{Ty}
use Rattle.link_rules.specs.Bodies.{HasNoLabel, IsLabel, MayFollow, trap_labels}
use Rattle.link_rules.specs.Classes.{DeclaredMethod, IsDeclared, IsNamed, fields_of, methods_of}
use Rattle.link_rules.specs.Keys.{IsFieldKeyNumber, accessed_key}
use Rattle.link_rules.specs.Names.{text_of}
use Rattle.link_rules.specs.Statements.{Access, HasBody, PlainCallAt, StmtAt, access_of, call_of, locals_of, labels_of, new_of}
use Rattle.link_rules.specs.Targets.{CallAt, Calls, IsInstantiableAt}
use Rattle.link_rules.specs.World.{World, body_kind}

-- two locals have one name
pub record HasLocalTwice (m : DeclaredMethod) (index : ℕ) : Type 0 where
  pub body : Body
  pub in_body : HasBody m body
  pub repeated : IsRepeated body.locals
  pub at_zero : index ≡ 0

-- a label before the statement has a name that an earlier one has
pub record RepeatsLabel (m : DeclaredMethod) (index : ℕ) : Type 0 where
  pub body : Body
  pub in_body : HasBody m body
  pub label : Label
  pub earlier : Label
  pub place : ℕ
  pub earlier_place : ℕ
  pub there : slice_get body.labels place ≡ Some label
  pub earlier_there : slice_get body.labels earlier_place ≡ Some earlier
  pub before : earlier_place < place
  pub same : label.name ≡ earlier.name
  pub at_label : index ≡ label.index

-- the statement names a label that isn't there
pub record JumpsNowhere (m : DeclaredMethod) (index : ℕ) : Type 0 where
  pub stmt : Stmt
  pub here : StmtAt m index stmt
  pub label : NameId
  pub named : Has (labels_of stmt) label
  pub missing : HasNoLabel here.body.labels label

-- a trap names a label that isn't there; what is said of a trap stands behind the statements
pub record TrapsNowhere (m : DeclaredMethod) (index : ℕ) : Type 0 where
  pub body : Body
  pub in_body : HasBody m body
  pub trap : Trap
  pub there : Has body.traps trap
  pub label : NameId
  pub named : Has (trap_labels trap) label
  pub missing : HasNoLabel body.labels label
  pub at_end : index ≡ length body.stmts

-- the statement may be followed by the end of the body
pub record RunsOff (m : DeclaredMethod) (index : ℕ) : Type 0 where
  pub stmt : Stmt
  pub here : StmtAt m index stmt
  pub followed : MayFollow here.body stmt index (length here.body.stmts)

-- the handler of a trap is the end of the body
pub record HandlesAtEnd (m : DeclaredMethod) (index : ℕ) : Type 0 where
  pub body : Body
  pub in_body : HasBody m body
  pub trap : Trap
  pub there : Has body.traps trap
  pub handler : IsLabel body.labels trap.with (length body.stmts)
  pub at_end : index ≡ length body.stmts

-- there is no statement
pub record IsEmpty (m : DeclaredMethod) (index : ℕ) : Type 0 where
  pub body : Body
  pub in_body : HasBody m body
  pub empty : body.stmts ≡ []
  pub at_zero : index ≡ 0

-- a local of the statement that the code keeps isn't declared
pub record NamesNoLocal (m : DeclaredMethod) (index : ℕ) : Type 0 where
  pub stmt : Stmt
  pub here : StmtAt m index stmt
  pub local : NameId
  pub named : Has (locals_of stmt) local
  pub missing : Has here.body.locals local → ⊥

-- the receiver of a static method is named
abbrev pub NamesNoReceiver : DeclaredMethod → ℕ → Type 0
NamesNoReceiver m index = (x : NameId) × StmtAt m index (stmt.This x) × (m.decl.is_static ≡ true)

-- a parameter is named that the method doesn't have
abbrev pub NamesNoParam : DeclaredMethod → ℕ → Type 0
NamesNoParam m index = (x : NameId) × (number : ℕ) × StmtAt m index (stmt.Param x number) × (length m.decl.params ≤ number)

-- a `dynamicinvoke`
abbrev pub CallsDynamically : DeclaredMethod → ℕ → Type 0
CallsDynamically m index = (s : Stmt) × StmtAt m index s × (call_of s ≡ Some Dynamic)

-- the class, declared or not, is one of reflection
abbrev pub IsReflective : List ℕ → Type 0
IsReflective name = (name ≡ codes "java.lang.Class") ⊎ IsTrue (starts_with nat_eq name (codes "java.lang.reflect."))
    ⊎ IsTrue (starts_with nat_eq name (codes "java.lang.invoke."))

-- the statement calls a method of this class
pub record CallsIn (m : DeclaredMethod) (index : ℕ) (name : List ℕ) : Type 0 where
  pub at : PlainCallAt m index
  pub named : text_of m.names at.call.sig.class ≡ name

-- the statement makes an object of this class
pub record MakesObject (m : DeclaredMethod) (index : ℕ) (name : List ℕ) : Type 0 where
  pub stmt : Stmt
  pub here : StmtAt m index stmt
  pub class : NameId
  pub makes : new_of stmt ≡ Some class
  pub named : text_of m.names class ≡ name

-- a method of a class of reflection is called
abbrev pub CallsReflection : DeclaredMethod → ℕ → Type 0
CallsReflection m index = (name : List ℕ) × CallsIn m index name × IsReflective name

-- the class of threads
abbrev pub thread_name : List ℕ
thread_name = codes "java.lang.Thread"

-- a class of this name is below one of that name
pub record IsBelowName (w : World) (name above : List ℕ) : Type 0 where
  pub lower : ℕ
  pub is_lower : IsNamed w.classes name lower
  pub upper : ℕ
  pub is_upper : IsNamed w.classes above upper
  pub below : Sub w.rows lower upper

-- the class is one of threads, declared or not
abbrev pub IsOfThreads : World → List ℕ → Type 0
IsOfThreads w name = (name ≡ thread_name) ⊎ IsBelowName w name thread_name

-- an object of a class of threads is made, or a method of one called
abbrev pub UsesThreads : World → DeclaredMethod → ℕ → Type 0
UsesThreads w m index = (name : List ℕ) × (MakesObject m index name ⊎ CallsIn m index name) × IsOfThreads w name

-- an array of arrays is made, and none of its sizes counts: there is none in the first pair of brackets
abbrev pub LacksFirstSize : DeclaredMethod → ℕ → Type 0
LacksFirstSize m index = (x : NameId) × (ty : Ty) × StmtAt m index (stmt.Assign x (expr.NewMulti ty 0))

-- the statement reads or writes this field
pub record AccessAt (m : DeclaredMethod) (index : ℕ) : Type 0 where
  pub stmt : Stmt
  pub here : StmtAt m index stmt
  pub access : Access
  pub accesses : access_of stmt ≡ Some access

-- the statement names this class: it makes an object of it, or accesses a field or calls a method of it
abbrev pub NamesClass : DeclaredMethod → ℕ → List ℕ → Type 0
NamesClass m index name = MakesObject m index name ⊎ CallsIn m index name ⊎ ((a : AccessAt m index) × (text_of m.names a.access.sig.class ≡ name))

-- the statement names a class that isn't declared
abbrev pub NamesNoClass : World → DeclaredMethod → ℕ → Type 0
NamesNoClass w m index = (name : List ℕ) × NamesClass m index name × (IsDeclared w.classes name → ⊥)

-- a trap names a class that isn't declared
pub record TrapsNoClass (w : World) (m : DeclaredMethod) (index : ℕ) : Type 0 where
  pub body : Body
  pub in_body : HasBody m body
  pub trap : Trap
  pub there : Has body.traps trap
  pub missing : IsDeclared w.classes (text_of m.names trap.class) → ⊥
  pub at_end : index ≡ length body.stmts

-- field look-up from the class that the statement names finds none with this name, this type and this static flag
pub record FindsNoField (w : World) (m : DeclaredMethod) (index : ℕ) : Type 0 where
  pub at : AccessAt m index
  pub class : ℕ
  pub is_class : IsNamed w.classes (text_of m.names at.access.sig.class) class
  pub key : ℕ
  pub is_key : IsFieldKeyNumber (fields_of w.classes) (accessed_key m.names at.access.is_static at.access.sig) key
  pub none : FieldOf w.rows class key None

-- an object of an interface or of an abstract class is made
pub record MakesAbstract (w : World) (m : DeclaredMethod) (index : ℕ) : Type 0 where
  pub name : List ℕ
  pub makes : MakesObject m index name
  pub number : ℕ
  pub named : IsNamed w.classes name number
  pub not_concrete : (named.class.class.interface ≡ true) ⊎ (named.class.class.is_abstract ≡ true)

-- no method is found, several defaults apart, or in the modes that look from the object's class no class above the named one declares one
abbrev pub FindsNone : World → Mode → ℕ → ℕ → Type 0
FindsNone w Static class key = OnPath w.rows class key None
FindsNone w Special class key = Resolve w.rows class key None × (IsAmbiguous w.rows class key → ⊥)
FindsNone w Virtual class key = Declared w.rows class key → ⊥
FindsNone w Interface class key = Declared w.rows class key → ⊥

-- a method is called that isn't declared
abbrev pub CallsUndeclared : World → DeclaredMethod → ℕ → Type 0
CallsUndeclared w m index = (names : CallAt w m index) × FindsNone w names.at.call.mode names.class names.key

-- an object of this class may be what the call is made on, and several default methods are there for it
pub record FindsSeveralAt (w : World) (class key receiver : ℕ) : Type 0 where
  pub instantiable : IsInstantiableAt w receiver
  pub below : Sub w.rows receiver class
  pub several : IsAmbiguous w.rows receiver key

-- several default methods are there, of which none is below the others
abbrev pub FindsSeveral : World → Mode → ℕ → ℕ → Type 0
FindsSeveral w Static class key = ⊥
FindsSeveral w Special class key = IsAmbiguous w.rows class key
FindsSeveral w Virtual class key = (receiver : ℕ) × FindsSeveralAt w class key receiver
FindsSeveral w Interface class key = (receiver : ℕ) × FindsSeveralAt w class key receiver

-- a call for which several default methods are there
abbrev pub CallsAmbiguous : World → DeclaredMethod → ℕ → Type 0
CallsAmbiguous w m index = (names : CallAt w m index) × FindsSeveral w names.at.call.mode names.class names.key

-- a call has more or fewer arguments than the method that it names has parameters
abbrev pub HasWrongArguments : DeclaredMethod → ℕ → Type 0
HasWrongArguments m index = (at : PlainCallAt m index) × (length at.call.args ≢ length at.call.sig.params)

-- a local is assigned the result of a method that has none
pub record TakesNoResult (m : DeclaredMethod) (index : ℕ) : Type 0 where
  pub to : NameId
  pub mode : Mode
  pub receiver : Option NameId
  pub sig : MethodSig
  pub args : List Imm
  pub here : StmtAt m index (stmt.Assign to (expr.Invoke (Plain mode receiver sig args)))
  pub void : sig.result.base ≡ base.Void

-- a native method may be run
pub record CallsNative (w : World) (m : DeclaredMethod) (index : ℕ) : Type 0 where
  pub row : ℕ
  pub calls : Calls w m index row
  pub callee : DeclaredMethod
  pub there : slice_get (methods_of w.classes) row ≡ Some callee
  pub native : body_kind callee ≡ Native
