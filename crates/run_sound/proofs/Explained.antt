-- By which facts of a statement each effect of it puts an object into a slot, a field or flight.
use Rattle.std.proofs.Common.{◌≡◌, ℕ, ◌+◌, ◌<◌, ◌⊎◌, Option, Some, None, false, List, length, slice_get, refl}
use Rattle.lists.specs.Lists.{Has}
use Rattle.link_rules.specs.declared.code.Arg.{Arg}
use Rattle.link_rules.specs.declared.code.Arg.TheVariants as arg
use Rattle.link_rules.specs.declared.code.Code.{Code}
use Rattle.link_rules.specs.declared.code.Code.TheVariants as code
use Rattle.link_rules.specs.Classes.{object_name}
use Rattle.link_rules.specs.Flow.{Handles, MayRaise, Next, IsRaised, IsReturn}
use Rattle.link_rules.specs.Linked.{LinkedMethod, LinkedProgram}
use Rattle.link_rules.specs.WellLinked.{FitsArg, HasTarget}
use Rattle.link_sites.specs.declared.site.Site.{Site}
use Rattle.link_sites.specs.Sites.{HasDeclared, IsArraySite, IsClassOfMade, IsInnerSite, IsNamedClass, Makes}
use Rattle.spds_rules.specs.declared.node.Node.{Node}
use Rattle.spds_rules.specs.declared.node.Var.{Var}
use Rattle.spds_rules.specs.declared.node.Var.TheVariants.{Local, Made, Text, Class}
use Rattle.spds_rules.specs.Edges.{Assigns, AssignsTo, IsThrownBy, LoadsInto, LoadsStatic, Passes, Returns, StoresStatic}
use Rattle.spds_rules.specs.Formals.{assigned as assigned_by}
use Rattle.spds_rules.specs.Nodes.{HasVar, arg_var, at, handed}
use Rattle.spds_rules.specs.Stores.{StoresInto}
use Rattle.step_rules.specs.declared.parts.Slot.{Slot}
use Rattle.step_rules.specs.declared.parts.Slot.TheVariants as slots
use Rattle.step_rules.specs.declared.parts.Value.{Value}
use Rattle.step_rules.specs.declared.parts.Value.TheVariants.{Null, Object}
use Rattle.step_rules.specs.Effects.{Effect}
use Rattle.step_rules.specs.Effects as effect
use Rattle.step_rules.specs.Slots.{local_of, operand_of, slot_of}
use Rattle.step_rules.specs.States.{Frame, HeapObject, Point, place_of}
use Rattle.run_sound.specs.Frames.{var_of}
use Rattle.run_sound.proofs.Invariant.{IsShaped}
use Rattle.run_sound.proofs.Words.{WasWritten}

-- the variable where the frame stands
abbrev pub node_in : Frame → Var → Node
node_in f v = at (place_of f) v

-- the variable stands for the object: a slot of the frame holds it, or it is that of a constant
pub data Stands (p : LinkedProgram) (f : Frame) (x : ℕ) : Var → Type 0 where
  by_slot : (from : Slot) → slot_of f from ≡ Some (Object x) → Stands p f x (var_of from)
  by_text : {i : ℕ} → i < length p.texts → x ≡ i → Stands p f x (Text i)
  by_class : {i : ℕ} → i < length p.class_texts → x ≡ length p.texts + i → Stands p f x (Class i)

-- the statement assigns nothing
abbrev pub AssignsNone : Code → Type 0
AssignsNone c = assigned_by c ≡ None

-- neither a call nor an identity
abbrev pub IsPlain : Code → Type 0
IsPlain (code.This to) = ⊥
IsPlain (code.Param to number) = ⊥
IsPlain (code.Caught to) = ⊥
IsPlain (code.Call to mode class key receiver args targets) = ⊥
IsPlain _ = Unit {0}

-- a call is one on a local that holds null
abbrev pub IsOnNull : Frame → Code → Type 0
IsOnNull f (code.Call to mode class key receiver args targets) = (x : ℕ) × (receiver ≡ Some x) × (local_of f x ≡ Some Null)
IsOnNull f _ = Unit {0}

-- an identity gives what it names, and a call gives nothing
abbrev pub Gives : Frame → Code → Value → Type 0
Gives f (code.This to) value = f.this ≡ Some value
Gives f (code.Param to number) value = slice_get f.params number ≡ Some value
Gives f (code.Caught to) value = f.caught ≡ Some value
Gives f (code.Call to mode class key receiver args targets) value = ⊥
Gives f _ value = Unit {0}

module _ (p : LinkedProgram) (point : Point) (m : LinkedMethod) (c : Code) where
  abbrev top : Frame
  top = point.top

  -- a variable of the statement that stands for the object, and of which a fact holds
  pub record IsBy (Fact : Var → Type 0) (x : ℕ) : Type 0 where
    pub var : Var
    pub has : HasVar m c false var
    pub stands : Stands p top x var
    pub fact : Fact var

  -- an object that a local gets: by an assignment, a load or out of a static field
  pub data GetsFrom (to x : ℕ) : Type 0 where
    assigned : IsBy (λ v. Assigns c v (Local to)) x → GetsFrom to x
    loaded : (base field o : ℕ) (object : HeapObject) → local_of top base ≡ Some (Object o) → slice_get point.heap o ≡ Some object
        → WasWritten object field (Object x) → LoadsInto c (Local base) field (Local to) → GetsFrom to x
    static : (field : ℕ) → slice_get point.statics field ≡ Some (Object x) → LoadsStatic c field (Local to) → GetsFrom to x

  -- the frame goes on behind the statement, which assigns the local
  abbrev pub Sets : ℕ → Type 0
  Sets to = Next c top.index (top.index + 1) × AssignsTo c to × (to < length m.locals)

  -- the local may get the value
  pub record CanGet (to : ℕ) (value : Value) : Type 0 where
    pub sets : Sets to
    pub gives : Gives top c value
    pub from : (x : ℕ) → value ≡ Object x → GetsFrom to x

  -- the local may get a new object of the class
  pub record CanMake (to class : ℕ) : Type 0 where
    pub sets : Sets to
    pub plain : IsPlain c
    pub assigns : Assigns c Made (Local to)
    pub makes : Makes c
    pub class_made : IsClassOfMade p c class

  -- a new array of an inner level may be an element of the array, from which the local gets it
  pub record CanNest (to o : ℕ) (inner : Site) (class : ℕ) : Type 0 where
    pub sets : Sets to
    pub plain : IsPlain c
    pub base : ℕ
    pub holds : local_of top base ≡ Some (Object o)
    pub loads : LoadsInto c (Local base) 0 (Local to)
    pub outer : HeapObject
    pub there : slice_get point.heap o ≡ Some outer
    pub is_array : IsArraySite p outer.site
    pub is_inner : IsInnerSite p outer.site inner
    pub class_named : IsNamedClass p object_name class

  -- the frame may go on there, and nothing is assigned
  abbrev pub CanGo : ℕ → Type 0
  CanGo index = Next c top.index index × AssignsNone c × IsPlain c

  -- the value may be written into the field of the object
  pub record CanWrite (o field : ℕ) (value : Value) : Type 0 where
    pub goes : CanGo (top.index + 1)
    pub base : ℕ
    pub holds : local_of top base ≡ Some (Object o)
    pub object : HeapObject
    pub there : slice_get point.heap o ≡ Some object
    pub has : ((field ≡ 0) × IsArraySite p object.site) ⊎ HasDeclared p object.class field
    pub from : (x : ℕ) → value ≡ Object x → IsBy (λ v. StoresInto c field (Local base) v) x

  -- the static field may get the value
  pub record CanSet (field : ℕ) (value : Value) : Type 0 where
    pub goes : CanGo (top.index + 1)
    pub from : (x : ℕ) → value ≡ Object x → IsBy (λ v. StoresStatic c v field) x

  -- the object may be in flight
  pub record CanThrow (o : ℕ) : Type 0 where
    pub raises : IsRaised c
    pub plain : IsPlain c
    pub from : IsBy (λ v. IsThrownBy c v) o

  -- the frame may be that of a method which is called like this
  pub record CanEnter (g : Frame) (receiver : Option ℕ) (args : List Arg) : Type 0 where
    pub begins : (g.index ≡ 0) × (g.raised ≡ false)
    pub shaped : IsShaped p g
    pub from : (to : Slot) (x : ℕ) → slot_of g to ≡ Some (Object x) → IsBy (λ v. Passes receiver args v (var_of to)) x
    pub passed : (x : ℕ) (position : Slot) (value : Value) → Passes receiver args (Local x) (var_of position) → local_of top x ≡ Some value
        → slot_of g position ≡ Some value

  -- the method may be left
  pub record CanReturn (value : Option Value) : Type 0 where
    pub is_return : IsReturn c
    pub from : (x : ℕ) → value ≡ Some (Object x) → IsBy (λ v. Returns c v) x

  -- what each effect of a statement stands on
  abbrev pub IsExplained : Effect → Type 0
  IsExplained effect.is_ill_typed = Unit {0}
  IsExplained (effect.raises kind) = MayRaise c kind × IsOnNull top c
  IsExplained (effect.throws o) = CanThrow o
  IsExplained (effect.goes index) = CanGo index
  IsExplained (effect.gets to value) = CanGet to value
  IsExplained (effect.makes to class) = CanMake to class
  IsExplained (effect.nests to o inner class) = CanNest to o inner class
  IsExplained (effect.writes o field value) = CanWrite o field value
  IsExplained (effect.sets field value) = CanSet field value
  IsExplained (effect.calls frame) =
      (target : HasTarget p top.method top.index frame.method) → CanEnter frame target.receiver target.args
  IsExplained (effect.returns value) = CanReturn value
  IsExplained (effect.handles handler o) = ⊥
  IsExplained (effect.leaves o) = ⊥

  -- and each effect of an exception in flight
  pub data IsUnwound : Effect → Type 0 where
    caught : {handler o : ℕ} → top.thrown ≡ Some (Object o) → Handles m.catches top.index handler → IsUnwound (effect.handles handler o)
    left : {o : ℕ} → top.thrown ≡ Some (Object o) → IsUnwound (effect.leaves o)

  -- an operand that is an object has a variable that stands for it
  pub operand : (a : Arg) (x : ℕ) (Fact : Var → Type 0) → FitsArg p m a → Has (handed c) a → operand_of p top a ≡ Some (Object x)
      → ((v : Var) → arg_var a ≡ Some v → Fact v)
      → IsBy Fact x
  operand (arg.Local y) x Fact fits has e so = record { var = Local y; has = fits; stands = by_slot (slots.Local y) e; fact = so (Local y) refl }
  operand (arg.Text i) x Fact fits has e so = record { var = Text i; has = has; stands = by_text fits (cc (e)); fact = so (Text i) refl }
  operand (arg.Class i) x Fact fits has e so = record { var = Class i; has = has; stands = by_class fits (cc (e)); fact = so (Class i) refl }
  operand arg.Number x Fact fits has e so = cc (e)
  operand arg.Null x Fact fits has e so = cc (e)
