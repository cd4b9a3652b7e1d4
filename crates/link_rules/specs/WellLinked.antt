-- What all layers above use of linking, whatever the program was linked from.
use Rattle.std.specs.Prelude.{◌≡◌, ◌≢◌, ℕ, ◌+◌, ◌<◌, ◌≤◌, List, [], Option, Some, All, IfSome, true, false, length, map, slice_get}
use Rattle.std.specs.Option.{is_some}
use Rattle.lists.specs.Lists.{Has, IsApart, AreIncreasing}
use Rattle.jim_ast.specs.declared.syntax.Mode.{Mode}
use Rattle.jim_ast.specs.declared.syntax.Mode.TheVariants.{Special, Virtual, Interface, Static}
use Rattle.link_rules.specs.declared.code.Arg.{Arg}
use Rattle.link_rules.specs.declared.code.Arg.TheVariants as arg
use Rattle.link_rules.specs.declared.code.Catch.{Catch}
use Rattle.link_rules.specs.declared.code.Code.{Code}
use Rattle.link_rules.specs.declared.code.Code.TheVariants.{This, Param, Caught, Copy, Cast, New, NewArray, NewMulti, Numeric, Length, Load, Store, LoadCell, StoreCell, LoadStatic, StoreStatic, Call, If, Goto, Switch, Return, Throw, Monitor, Skip}
use Rattle.link_rules.specs.Flow.{Next}
use Rattle.link_rules.specs.Keys.{HasReceiverByMode, is_static_mode}
use Rattle.link_rules.specs.Linked.{Element, LinkedClass, LinkedKey, LinkedMethod, LinkedProgram}
use Rattle.link_rules.specs.Targets.{nine_names}

-- a local of the method
abbrev pub IsLocalOf : LinkedMethod → ℕ → Type 0
IsLocalOf m x = x < length m.locals

-- an operand whose number is in range
abbrev pub FitsArg : LinkedProgram → LinkedMethod → Arg → Type 0
FitsArg p m (arg.Local x) = IsLocalOf m x
FitsArg p m arg.Number = Unit {0}
FitsArg p m arg.Null = Unit {0}
FitsArg p m (arg.Text i) = i < length p.texts
FitsArg p m (arg.Class i) = i < length p.class_texts

-- the number of an instance field, which 0 isn't
abbrev pub IsFieldOf : LinkedProgram → ℕ → Type 0
IsFieldOf p f = (0 < f) × (f ≤ length p.fields)

-- a call on a receiver where its mode isn't static, of a key that is static where its mode is
abbrev pub FitsMode : LinkedProgram → Mode → Option ℕ → ℕ → Type 0
FitsMode p mode receiver key = HasReceiverByMode mode receiver
    × (k : LinkedKey) × (slice_get p.keys key ≡ Some k) × (k.is_static ≡ is_static_mode mode)

-- each number that the code names is in range, and a receiver, a parameter and a field is one that the method, or the program, has
abbrev pub FitsCode : LinkedProgram → LinkedMethod → Code → Type 0
FitsCode p m (This to) = IsLocalOf m to × (m.has_this ≡ true)
FitsCode p m (Param to number) = IsLocalOf m to × (number < m.params)
FitsCode p m (Caught to) = IsLocalOf m to
FitsCode p m (Copy to a) = IsLocalOf m to × FitsArg p m a
FitsCode p m (Cast to a) = IsLocalOf m to × FitsArg p m a
FitsCode p m (New to class) = IsLocalOf m to × (class < length p.classes)
FitsCode p m (NewArray to) = IsLocalOf m to
FitsCode p m (NewMulti to levels) = IsLocalOf m to × (0 < levels) × (levels < 256)
FitsCode p m (Numeric to divides) = IsLocalOf m to
FitsCode p m (Length to a) = IsLocalOf m to × FitsArg p m a
FitsCode p m (Load to base f) = IsLocalOf m to × IsLocalOf m base × IsFieldOf p f
FitsCode p m (Store base f a) = IsLocalOf m base × IsFieldOf p f × FitsArg p m a
FitsCode p m (LoadCell to base) = IsLocalOf m to × IsLocalOf m base
FitsCode p m (StoreCell base a) = IsLocalOf m base × FitsArg p m a
FitsCode p m (LoadStatic to f) = IsLocalOf m to × (f < p.static_count)
FitsCode p m (StoreStatic f a) = (f < p.static_count) × FitsArg p m a
FitsCode p m (Call to mode class key receiver args targets) = IfSome to (IsLocalOf m) × (class < length p.classes) × IfSome receiver (IsLocalOf m)
    × FitsMode p mode receiver key × All (FitsArg p m) args × All (λ target. target < length p.methods) targets
FitsCode p m (If jump) = Unit {0}
FitsCode p m (Goto jump) = Unit {0}
FitsCode p m (Switch jumps) = jumps ≢ []
FitsCode p m (Return a) = IfSome a (FitsArg p m)
FitsCode p m (Throw a) = FitsArg p m a
FitsCode p m (Monitor a) = FitsArg p m a
FitsCode p m Skip = Unit {0}

-- a handler's class and statement are there
abbrev pub FitsCatch : LinkedProgram → LinkedMethod → Catch → Type 0
FitsCatch p m catch = (catch.class < length p.classes) × (catch.handler < length m.code)

-- the statement makes arrays
abbrev pub MakesArrays : Code → Type 0
MakesArrays (NewArray to) = Unit {0}
MakesArrays (NewMulti to levels) = Unit {0}
MakesArrays (This to) = ⊥
MakesArrays (Param to number) = ⊥
MakesArrays (Caught to) = ⊥
MakesArrays (Copy to arg) = ⊥
MakesArrays (Cast to arg) = ⊥
MakesArrays (New to class) = ⊥
MakesArrays (Numeric to divides) = ⊥
MakesArrays (Length to arg) = ⊥
MakesArrays (Load to base field) = ⊥
MakesArrays (Store base field arg) = ⊥
MakesArrays (LoadCell to base) = ⊥
MakesArrays (StoreCell base arg) = ⊥
MakesArrays (LoadStatic to field) = ⊥
MakesArrays (StoreStatic field arg) = ⊥
MakesArrays (Call to mode class key receiver args targets) = ⊥
MakesArrays (If jump) = ⊥
MakesArrays (Goto jump) = ⊥
MakesArrays (Switch jumps) = ⊥
MakesArrays (Return arg) = ⊥
MakesArrays (Throw arg) = ⊥
MakesArrays (Monitor arg) = ⊥
MakesArrays Skip = ⊥

-- the numbers of a method are in range, what may follow one of its statements is one of them, and each statement that makes arrays has one text of what the innermost hold
pub record FitsMethod (p : LinkedProgram) (m : LinkedMethod) : Type 0 where
  pub codes : All (FitsCode p m) m.code
  pub catches : All (FitsCatch p m) m.catches
  pub stays : (t next : ℕ) (c : Code) → slice_get m.code t ≡ Some c → Next c t next → next < length m.code
  pub elements : (t : ℕ) (c : Code) → slice_get m.code t ≡ Some c → MakesArrays c → (e : Element) × Has m.elements e × (e.index ≡ t)
  pub one_each : AreIncreasing (map (λ e. e.index) m.elements)

-- the last method, which has statements, no parameters and no receiver
pub record IsRoot (p : LinkedProgram) (number : ℕ) (root : LinkedMethod) : Type 0 where
  pub last : number + 1 ≡ length p.methods
  pub there : slice_get p.methods number ≡ Some root
  pub has_statements : 0 < length root.code
  pub no_params : root.params ≡ 0
  pub no_receiver : root.has_this ≡ false

-- one of the classes has this name
abbrev pub HasClass : LinkedProgram → List ℕ → Type 0
HasClass p name = (number : ℕ) × (class : LinkedClass) × (slice_get p.classes number ≡ Some class) × (class.name ≡ name)

-- what each linked program keeps
pub record IsInForm (p : LinkedProgram) : Type 0 where
  pub methods : All (FitsMethod p) p.methods
  pub rows : length p.method_rows + 1 ≡ length p.methods
  pub ordered : AreIncreasing p.method_rows
  pub tree : length p.rows.classes ≡ length p.classes
  pub fields : All (λ f. f.class < length p.classes) p.fields
  pub texts : IsApart p.texts
  pub class_texts : IsApart p.class_texts
  pub number : ℕ
  pub root : LinkedMethod
  pub is_root : IsRoot p number root
  pub nine : All (HasClass p) nine_names

-- the call at an index of a method has this target
pub record HasTarget (p : LinkedProgram) (number index target : ℕ) : Type 0 where
  pub method : LinkedMethod
  pub there : slice_get p.methods number ≡ Some method
  pub to : Option ℕ
  pub mode : Mode
  pub class : ℕ
  pub key : ℕ
  pub receiver : Option ℕ
  pub args : List Arg
  pub targets : List ℕ
  pub call : slice_get method.code index ≡ Some (Call to mode class key receiver args targets)
  pub has : Has targets target

-- a target of a call on this receiver with so many arguments: a method other than the root, with statements, which has a receiver exactly where the
-- call has one, and as many parameters
pub record SuitsCall (p : LinkedProgram) (receiver : Option ℕ) (count target : ℕ) : Type 0 where
  pub method : LinkedMethod
  pub there : slice_get p.methods target ≡ Some method
  pub not_root : target + 1 < length p.methods
  pub has_statements : 0 < length method.code
  pub has_this : method.has_this ≡ is_some receiver
  pub params : method.params ≡ count

-- a call of static or special mode has one target
abbrev pub HasOneTarget : Mode → List ℕ → Type 0
HasOneTarget Static targets = length targets ≡ 1
HasOneTarget Special targets = length targets ≡ 1
HasOneTarget Virtual targets = Unit {0}
HasOneTarget Interface targets = Unit {0}

-- the class with this number is instantiable
abbrev pub IsInstantiableIn : LinkedProgram → ℕ → Type 0
IsInstantiableIn p number = (class : LinkedClass) × (slice_get p.classes number ≡ Some class) × (class.instantiable ≡ true)

-- the targets of a call suit it, and the class of a `new` is instantiable
abbrev pub IsWellLinkedCode : LinkedProgram → Code → Type 0
IsWellLinkedCode p (Call to mode class key receiver args targets) = All (SuitsCall p receiver (length args)) targets × HasOneTarget mode targets
IsWellLinkedCode p (New to class) = IsInstantiableIn p class
IsWellLinkedCode p _ = Unit {0}

-- the methods that the root reaches by targets of calls
pub data IsReachedByCalls (p : LinkedProgram) (root : ℕ) : ℕ → Type 0 where
  root : IsReachedByCalls p root root
  called : {number index target : ℕ} → IsReachedByCalls p root number → HasTarget p number index target → IsReachedByCalls p root target

-- a class of this name is instantiable
abbrev pub IsInstantiableWhereNamed : LinkedProgram → List ℕ → Type 0
IsInstantiableWhereNamed p name = (number : ℕ) (class : LinkedClass) → slice_get p.classes number ≡ Some class → class.name ≡ name
    → class.instantiable ≡ true

-- all of this: what linking gives, and what the laws of runs take as their premise
pub record IsWellLinked (p : LinkedProgram) : Type 0 where
  pub form : IsInForm p
  pub codes : All (λ m. All (IsWellLinkedCode p) m.code) p.methods
  pub reached : (number : ℕ) (m : LinkedMethod) → slice_get p.methods number ≡ Some m → 0 < length m.code
      → IsReachedByCalls p form.number number
  pub nine : All (IsInstantiableWhereNamed p) nine_names
