-- The edges along which objects go from one node to another.
--
-- The rules within a method and between methods are the data flow of a flow-sensitive points-to analysis (Späth, Ali and Bodden 2019). That static
-- fields forget the calls, how exceptions flow, and that objects go back to the locals that were passed, is this project's own.
use Rattle.std.specs.Prelude.{◌≡◌, ℕ, ◌+◌, ◌⊎◌, Bool, List, Option, Some, None, true, false, slice_get}
use Rattle.link_rules.specs.declared.code.Arg.{Arg}
use Rattle.link_rules.specs.declared.code.Code.{Code}
use Rattle.link_rules.specs.declared.code.Code.TheVariants as code
use Rattle.link_rules.specs.Flow.{Handles, MayRaise, Next, IsReturn}
use Rattle.link_rules.specs.Linked.{LinkedMethod, LinkedProgram}
use Rattle.link_rules.specs.WellLinked.{HasTarget}
use Rattle.link_sites.specs.declared.place.Place.{Place}
use Rattle.link_sites.specs.Places.{HasCode, before, in_flight}
use Rattle.spds_rules.specs.declared.edge.EdgeKind.{EdgeKind}
use Rattle.spds_rules.specs.declared.edge.EdgeKind.TheVariants.{Flow, Load, Call, Return, Jump}
use Rattle.spds_rules.specs.declared.node.Node.{Node}
use Rattle.spds_rules.specs.declared.node.Var.{Var}
use Rattle.spds_rules.specs.declared.node.Var.TheVariants.{Local, This, Param, Caught, Thrown, Made, Nested, Raised, Text, Class}
use Rattle.spds_rules.specs.declared.reach.Reach.{Reach}
use Rattle.spds_rules.specs.declared.reach.Reach.TheVariants.{Plain, Tracked}
use Rattle.spds_rules.specs.Formals.{HasFormal, assigned}
use Rattle.spds_rules.specs.Nodes.{IsNode, arg_var}

-- a variable of a frame
abbrev pub IsOfFrame : Var → Type 0
IsOfFrame (Local x) = Unit {0}
IsOfFrame This = Unit {0}
IsOfFrame (Param number) = Unit {0}
IsOfFrame Caught = Unit {0}
IsOfFrame Thrown = ⊥
IsOfFrame Made = ⊥
IsOfFrame (Nested level) = ⊥
IsOfFrame (Raised kind) = ⊥
IsOfFrame (Text number) = ⊥
IsOfFrame (Class number) = ⊥

-- the statement assigns the local
abbrev pub AssignsTo : Code → ℕ → Type 0
AssignsTo c x = assigned c ≡ Some x

-- a variable of the frame that the statement doesn't assign
abbrev pub Leaves : Code → Var → Type 0
Leaves c (Local x) = AssignsTo c x → ⊥
Leaves c v = IsOfFrame v

-- the statement assigns what v is to the local w
abbrev pub Assigns : Code → Var → Var → Type 0
Assigns (code.This to) v w = (v ≡ This) × (w ≡ Local to)
Assigns (code.Param to number) v w = (v ≡ Param number) × (w ≡ Local to)
Assigns (code.Caught to) v w = (v ≡ Caught) × (w ≡ Local to)
Assigns (code.Copy to a) v w = (arg_var a ≡ Some v) × (w ≡ Local to)
Assigns (code.Cast to a) v w = (arg_var a ≡ Some v) × (w ≡ Local to)
Assigns (code.New to class) v w = (v ≡ Made) × (w ≡ Local to)
Assigns (code.NewArray to) v w = (v ≡ Made) × (w ≡ Local to)
Assigns (code.NewMulti to levels) v w = (v ≡ Made) × (w ≡ Local to)
Assigns (code.Numeric to divides) v w = ⊥
Assigns (code.Length to a) v w = ⊥
Assigns (code.Load to base field) v w = ⊥
Assigns (code.Store base field a) v w = ⊥
Assigns (code.LoadCell to base) v w = ⊥
Assigns (code.StoreCell base a) v w = ⊥
Assigns (code.LoadStatic to field) v w = ⊥
Assigns (code.StoreStatic field a) v w = ⊥
Assigns (code.Call to mode class key receiver args targets) v w = ⊥
Assigns (code.If jump) v w = ⊥
Assigns (code.Goto jump) v w = ⊥
Assigns (code.Switch jumps) v w = ⊥
Assigns (code.Return a) v w = ⊥
Assigns (code.Throw a) v w = ⊥
Assigns (code.Monitor a) v w = ⊥
Assigns code.Skip v w = ⊥

-- what the statement puts in flight: an exception that it raises, or its operand
abbrev pub IsThrownBy : Code → Var → Type 0
IsThrownBy c (Raised kind) = MayRaise c kind
IsThrownBy (code.Throw a) v = arg_var a ≡ Some v
IsThrownBy (code.This to) v = ⊥
IsThrownBy (code.Param to number) v = ⊥
IsThrownBy (code.Caught to) v = ⊥
IsThrownBy (code.Copy to a) v = ⊥
IsThrownBy (code.Cast to a) v = ⊥
IsThrownBy (code.New to class) v = ⊥
IsThrownBy (code.NewArray to) v = ⊥
IsThrownBy (code.NewMulti to levels) v = ⊥
IsThrownBy (code.Numeric to divides) v = ⊥
IsThrownBy (code.Length to a) v = ⊥
IsThrownBy (code.Load to base field) v = ⊥
IsThrownBy (code.Store base field a) v = ⊥
IsThrownBy (code.LoadCell to base) v = ⊥
IsThrownBy (code.StoreCell base a) v = ⊥
IsThrownBy (code.LoadStatic to field) v = ⊥
IsThrownBy (code.StoreStatic field a) v = ⊥
IsThrownBy (code.Call to mode class key receiver args targets) v = ⊥
IsThrownBy (code.If jump) v = ⊥
IsThrownBy (code.Goto jump) v = ⊥
IsThrownBy (code.Switch jumps) v = ⊥
IsThrownBy (code.Return a) v = ⊥
IsThrownBy (code.Monitor a) v = ⊥
IsThrownBy code.Skip v = ⊥

-- what a handler finds: the locals, the receiver and the parameters as they were, and what was in flight as what is caught
abbrev pub IsCaughtAs : Var → Var → Type 0
IsCaughtAs (Local x) w = w ≡ Local x
IsCaughtAs This w = w ≡ This
IsCaughtAs (Param number) w = w ≡ Param number
IsCaughtAs Thrown w = w ≡ Caught
IsCaughtAs Caught w = ⊥
IsCaughtAs Made w = ⊥
IsCaughtAs (Nested level) w = ⊥
IsCaughtAs (Raised kind) w = ⊥
IsCaughtAs (Text number) w = ⊥
IsCaughtAs (Class number) w = ⊥

-- v before the statement at t of a method goes to w at s, over the statement, into flight, or from flight into a handler
abbrev pub FlowsIn : LinkedMethod → Code → ℕ → Bool → Var → ℕ → Bool → Var → Type 0
FlowsIn m c t false v s false w = Next c t s × ((Leaves c v × (w ≡ v)) ⊎ Assigns c v w)
FlowsIn m c t false v s true w = (s ≡ t) × ((IsOfFrame v × (w ≡ v)) ⊎ (IsThrownBy c v × (w ≡ Thrown)))
FlowsIn m c t true v s false w = Handles m.catches t s × IsCaughtAs v w
FlowsIn m c t true v s true w = ⊥

-- an edge within a frame
pub record IsFlow (p : LinkedProgram) (a b : Node) : Type 0 where
  pub same : b.place.method ≡ a.place.method
  pub method : LinkedMethod
  pub there : slice_get p.methods a.place.method ≡ Some method
  pub code : Code
  pub here : slice_get method.code a.place.index ≡ Some code
  pub flows : FlowsIn method code a.place.index a.place.raised a.var b.place.index b.place.raised b.var

-- the statement loads the field of v into w
abbrev pub LoadsInto : Code → Var → ℕ → Var → Type 0
LoadsInto (code.Load to base field) v f w = (v ≡ Local base) × (f ≡ field) × (w ≡ Local to)
LoadsInto (code.LoadCell to base) v f w = (v ≡ Local base) × (f ≡ 0) × (w ≡ Local to)
LoadsInto (code.This to) v f w = ⊥
LoadsInto (code.Param to number) v f w = ⊥
LoadsInto (code.Caught to) v f w = ⊥
LoadsInto (code.Copy to a) v f w = ⊥
LoadsInto (code.Cast to a) v f w = ⊥
LoadsInto (code.New to class) v f w = ⊥
LoadsInto (code.NewArray to) v f w = ⊥
LoadsInto (code.NewMulti to levels) v f w = ⊥
LoadsInto (code.Numeric to divides) v f w = ⊥
LoadsInto (code.Length to a) v f w = ⊥
LoadsInto (code.Store base field a) v f w = ⊥
LoadsInto (code.StoreCell base a) v f w = ⊥
LoadsInto (code.LoadStatic to field) v f w = ⊥
LoadsInto (code.StoreStatic field a) v f w = ⊥
LoadsInto (code.Call to mode class key receiver args targets) v f w = ⊥
LoadsInto (code.If jump) v f w = ⊥
LoadsInto (code.Goto jump) v f w = ⊥
LoadsInto (code.Switch jumps) v f w = ⊥
LoadsInto (code.Return a) v f w = ⊥
LoadsInto (code.Throw a) v f w = ⊥
LoadsInto (code.Monitor a) v f w = ⊥
LoadsInto code.Skip v f w = ⊥

-- an edge from what is loaded from to what is loaded into
pub record IsLoad (p : LinkedProgram) (a : Node) (field : ℕ) (b : Node) : Type 0 where
  pub same : b.place.method ≡ a.place.method
  pub unraised : (a.place.raised ≡ false) × (b.place.raised ≡ false)
  pub loads : HasCode p a.place.method a.place.index (λ c. LoadsInto c a.var field b.var × Next c a.place.index b.place.index)

-- the statement stores v into the static field
abbrev pub StoresStatic : Code → Var → ℕ → Type 0
StoresStatic (code.StoreStatic field a) v f = (f ≡ field) × (arg_var a ≡ Some v)
StoresStatic (code.This to) v f = ⊥
StoresStatic (code.Param to number) v f = ⊥
StoresStatic (code.Caught to) v f = ⊥
StoresStatic (code.Copy to a) v f = ⊥
StoresStatic (code.Cast to a) v f = ⊥
StoresStatic (code.New to class) v f = ⊥
StoresStatic (code.NewArray to) v f = ⊥
StoresStatic (code.NewMulti to levels) v f = ⊥
StoresStatic (code.Numeric to divides) v f = ⊥
StoresStatic (code.Length to a) v f = ⊥
StoresStatic (code.Load to base field) v f = ⊥
StoresStatic (code.Store base field a) v f = ⊥
StoresStatic (code.LoadCell to base) v f = ⊥
StoresStatic (code.StoreCell base a) v f = ⊥
StoresStatic (code.LoadStatic to field) v f = ⊥
StoresStatic (code.Call to mode class key receiver args targets) v f = ⊥
StoresStatic (code.If jump) v f = ⊥
StoresStatic (code.Goto jump) v f = ⊥
StoresStatic (code.Switch jumps) v f = ⊥
StoresStatic (code.Return a) v f = ⊥
StoresStatic (code.Throw a) v f = ⊥
StoresStatic (code.Monitor a) v f = ⊥
StoresStatic code.Skip v f = ⊥

-- the statement loads the static field into w
abbrev pub LoadsStatic : Code → ℕ → Var → Type 0
LoadsStatic (code.LoadStatic to field) f w = (f ≡ field) × (w ≡ Local to)
LoadsStatic (code.This to) f w = ⊥
LoadsStatic (code.Param to number) f w = ⊥
LoadsStatic (code.Caught to) f w = ⊥
LoadsStatic (code.Copy to a) f w = ⊥
LoadsStatic (code.Cast to a) f w = ⊥
LoadsStatic (code.New to class) f w = ⊥
LoadsStatic (code.NewArray to) f w = ⊥
LoadsStatic (code.NewMulti to levels) f w = ⊥
LoadsStatic (code.Numeric to divides) f w = ⊥
LoadsStatic (code.Length to a) f w = ⊥
LoadsStatic (code.Load to base field) f w = ⊥
LoadsStatic (code.Store base field a) f w = ⊥
LoadsStatic (code.LoadCell to base) f w = ⊥
LoadsStatic (code.StoreCell base a) f w = ⊥
LoadsStatic (code.StoreStatic field a) f w = ⊥
LoadsStatic (code.Call to mode class key receiver args targets) f w = ⊥
LoadsStatic (code.If jump) f w = ⊥
LoadsStatic (code.Goto jump) f w = ⊥
LoadsStatic (code.Switch jumps) f w = ⊥
LoadsStatic (code.Return a) f w = ⊥
LoadsStatic (code.Throw a) f w = ⊥
LoadsStatic (code.Monitor a) f w = ⊥
LoadsStatic code.Skip f w = ⊥

-- an edge from what is stored into a static field to each local that the field is loaded into
pub record IsJump (p : LinkedProgram) (a b : Node) : Type 0 where
  pub field : ℕ
  pub load : ℕ
  pub unraised : (a.place.raised ≡ false) × (b.place.raised ≡ false)
  pub stores : HasCode p a.place.method a.place.index (λ c. StoresStatic c a.var field)
  pub loads : HasCode p b.place.method load (λ c. LoadsStatic c field b.var × Next c load b.place.index)

-- the call passes v as w
abbrev pub Passes : Option ℕ → List Arg → Var → Var → Type 0
Passes receiver args v This = (x : ℕ) × (receiver ≡ Some x) × (v ≡ Local x)
Passes receiver args v (Param number) = (a : Arg) × (slice_get args number ≡ Some a) × (arg_var a ≡ Some v)
Passes receiver args v (Local x) = ⊥
Passes receiver args v Caught = ⊥
Passes receiver args v Thrown = ⊥
Passes receiver args v Made = ⊥
Passes receiver args v (Nested level) = ⊥
Passes receiver args v (Raised kind) = ⊥
Passes receiver args v (Text number) = ⊥
Passes receiver args v (Class number) = ⊥

-- an edge from what a call passes to what a method that it may run begins with
pub record IsPassed (p : LinkedProgram) (a : Node) (call : Place) (b : Node) : Type 0 where
  pub from : a.place ≡ call
  pub unraised : call.raised ≡ false
  pub target : HasTarget p call.method call.index b.place.method
  pub begins : b.place ≡ before b.place.method 0
  pub passes : Passes target.receiver target.args a.var b.var

-- the statement returns v
abbrev pub Returns : Code → Var → Type 0
Returns (code.Return (Some a)) v = arg_var a ≡ Some v
Returns (code.Return None) v = ⊥
Returns (code.This to) v = ⊥
Returns (code.Param to number) v = ⊥
Returns (code.Caught to) v = ⊥
Returns (code.Copy to a) v = ⊥
Returns (code.Cast to a) v = ⊥
Returns (code.New to class) v = ⊥
Returns (code.NewArray to) v = ⊥
Returns (code.NewMulti to levels) v = ⊥
Returns (code.Numeric to divides) v = ⊥
Returns (code.Length to a) v = ⊥
Returns (code.Load to base field) v = ⊥
Returns (code.Store base field a) v = ⊥
Returns (code.LoadCell to base) v = ⊥
Returns (code.StoreCell base a) v = ⊥
Returns (code.LoadStatic to field) v = ⊥
Returns (code.StoreStatic field a) v = ⊥
Returns (code.Call to mode class key receiver args targets) v = ⊥
Returns (code.If jump) v = ⊥
Returns (code.Goto jump) v = ⊥
Returns (code.Switch jumps) v = ⊥
Returns (code.Throw a) v = ⊥
Returns (code.Monitor a) v = ⊥
Returns code.Skip v = ⊥

-- a value that is returned goes to the local that takes the call's result, just behind the call
pub record IsResult (p : LinkedProgram) (a : Node) (call : Place) (to : Option ℕ) (b : Node) : Type 0 where
  pub returned : HasCode p a.place.method a.place.index (λ c. Returns c a.var)
  pub unraised : a.place.raised ≡ false
  pub goes_on : b.place ≡ before call.method (call.index + 1)
  pub local : ℕ
  pub taken : to ≡ Some local
  pub is_local : b.var ≡ Local local

-- an exception that leaves a method is in flight at the call
pub record IsEscape (a : Node) (call : Place) (b : Node) : Type 0 where
  pub raised : a.place.raised ≡ true
  pub at_call : b.place ≡ in_flight call.method call.index
  pub thrown : (a.var ≡ Thrown) × (b.var ≡ Thrown)

-- an edge from what leaves a method that the call may run to where it comes to
pub record IsReturned (p : LinkedProgram) (a : Node) (call : Place) (b : Node) : Type 0 where
  pub unraised : call.raised ≡ false
  pub target : HasTarget p call.method call.index a.place.method
  pub gives : IsResult p a call target.to b ⊎ IsEscape a call b

-- from a return of the method, to just behind a call that doesn't assign the local
pub record IsBackByReturn (p : LinkedProgram) (a : Node) (call : Place) (to : Option ℕ) (local : ℕ) (b : Node) : Type 0 where
  pub returned : HasCode p a.place.method a.place.index IsReturn
  pub unraised : a.place.raised ≡ false
  pub goes_on : b.place ≡ before call.method (call.index + 1)
  pub left : to ≡ Some local → ⊥

-- with an exception that leaves the method, to where it is in flight at the call. Such a call assigns nothing
pub record IsBackInFlight (a : Node) (call : Place) (b : Node) : Type 0 where
  pub raised : a.place.raised ≡ true
  pub at_call : b.place ≡ in_flight call.method call.index

-- a back edge: from the formal of a position in a method that the call may run, where the method is left, to the local of which the call passes the
-- object there
pub record IsBack (p : LinkedProgram) (a : Node) (call : Place) (b : Node) : Type 0 where
  pub unraised : call.raised ≡ false
  pub target : HasTarget p call.method call.index a.place.method
  pub local : ℕ
  pub is_local : b.var ≡ Local local
  pub position : Var
  pub passes : Passes target.receiver target.args (Local local) position
  pub has_formal : HasFormal p a.place.method position a.var
  pub comes : IsBackByReturn p a call target.to local b ⊎ IsBackInFlight a call b

-- back edges are looked at where objects are tracked
abbrev pub IsBackIn : LinkedProgram → Reach → Node → Place → Node → Type 0
IsBackIn p Plain a call b = ⊥
IsBackIn p Tracked a call b = IsBack p a call b

-- the rows of the table of edges, by their kind
abbrev pub IsRow : LinkedProgram → Reach → Node → EdgeKind → Node → Type 0
IsRow p reach a Flow b = IsFlow p a b
IsRow p reach a (Load field) b = IsLoad p a field b
IsRow p reach a (Call call) b = IsPassed p a call b
IsRow p reach a (Return call) b = IsReturned p a call b ⊎ IsBackIn p reach a call b
IsRow p reach a Jump b = IsJump p a b

-- an edge of the program: a row that joins two of its nodes
pub record IsEdge (p : LinkedProgram) (reach : Reach) (a : Node) (kind : EdgeKind) (b : Node) : Type 0 where
  pub from : IsNode p a
  pub to : IsNode p b
  pub row : IsRow p reach a kind b
