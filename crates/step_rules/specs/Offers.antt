-- What a step may do, by the statement at which it is made. The list has as many entries as the step has choices.
use Rattle.std.specs.Prelude.{◌≡◌, ℕ, ◌+◌, ◌<◌, ◌⊎◌, ◌++◌, List, [], ◌∷◌, Option, Some, None, Bool, true, false, length, map, slice_get}
use Rattle.class_rules.specs.Lookups.{Resolve}
use Rattle.lists.specs.Lists.{IsLeast}
use Rattle.class_rules.specs.Rows.{Sub}
use Rattle.jim_ast.specs.declared.syntax.Mode.{Mode}
use Rattle.jim_ast.specs.declared.syntax.Mode.TheVariants.{Special, Virtual, Interface, Static}
use Rattle.link_rules.specs.declared.code.Arg.{Arg}
use Rattle.link_rules.specs.declared.code.Catch.{Catch}
use Rattle.link_rules.specs.declared.code.Code.{Code}
use Rattle.link_rules.specs.declared.code.Code.TheVariants.{This, Param, Caught, Copy, Cast, New, NewArray, NewMulti, Numeric, Length, Load, Store, LoadCell, StoreCell, LoadStatic, StoreStatic, Call, If, Goto, Switch, Return, Throw, Monitor, Skip}
use Rattle.link_rules.specs.Classes.{object_name}
use Rattle.link_rules.specs.Flow.{CoversPlace}
use Rattle.link_rules.specs.Linked.{LinkedMethod, LinkedProgram}
use Rattle.link_sites.specs.declared.site.Site.{Site}
use Rattle.link_sites.specs.Places.{HasCode}
use Rattle.link_sites.specs.Sites.{HasDeclared, IsArraySite, IsInnerSite, IsNamedClass}
use Rattle.step_rules.specs.declared.parts.Value.{Value}
use Rattle.step_rules.specs.declared.parts.Value.TheVariants.{Null, Number, Object}
use Rattle.step_rules.specs.Effects.{Effect, is_ill_typed, raises, throws, goes, gets, makes, nests, writes, sets, calls, returns, handles, leaves}
use Rattle.step_rules.specs.Slots.{cells, field_of, local_of, operand_of, operands_of}
use Rattle.step_rules.specs.States.{Frame, HeapObject, Point, new_frame}

-- this and nothing else
abbrev pub Only : List Effect → List Effect → Type 0
Only these offered = offered ≡ these

-- a step that isn't well typed has one choice
abbrev pub IllTyped : List Effect → Type 0
IllTyped = Only (is_ill_typed ∷ [])

-- by an operand, which must be set
abbrev pub WithValue : Option Value → (Value → List Effect → Type 0) → List Effect → Type 0
WithValue (Some value) Rest offered = Rest value offered
WithValue None Rest offered = IllTyped offered

-- by a base, a receiver, a monitor or what is thrown: a number isn't well typed, and null raises a `NullPointerException`
abbrev pub WithObject : Value → (ℕ → List Effect → Type 0) → List Effect → Type 0
WithObject (Object o) Rest offered = Rest o offered
WithObject Null Rest offered = Only (raises 0 ∷ []) offered
WithObject Number Rest offered = IllTyped offered

-- by an object of the heap
abbrev pub AtObject : List HeapObject → ℕ → (HeapObject → List Effect → Type 0) → List Effect → Type 0
AtObject heap o Rest offered = (object : HeapObject) × (slice_get heap o ≡ Some object) × Rest object offered

-- by whether something is so: where it isn't, the step isn't well typed
abbrev pub Where : Type 0 → List Effect → List Effect → Type 0
Where Fact these offered = (Fact × Only these offered) ⊎ ((Fact → ⊥) × IllTyped offered)

-- an identity statement, a copy: the local gets the value
abbrev pub Assigns : ℕ → Option Value → List Effect → Type 0
Assigns to source = WithValue source (λ value. Only (gets to value ∷ []))

-- a cast may fail
abbrev pub Casts : ℕ → Option Value → List Effect → Type 0
Casts to source = WithValue source (λ value. Only (gets to value ∷ raises 4 ∷ []))

-- an array, of which the class is `java.lang.Object`, or a negative size. Of an array of arrays it is the outermost one
abbrev pub MakesArray : LinkedProgram → ℕ → List Effect → Type 0
MakesArray p to offered = (class : ℕ) × IsNamedClass p object_name class × Only (makes to class ∷ raises 3 ∷ []) offered

-- a division may be one by zero
abbrev pub Computes : ℕ → Bool → List Effect → Type 0
Computes to true = Only (gets to Number ∷ raises 5 ∷ [])
Computes to false = Only (gets to Number ∷ [])

-- the length of an array
abbrev pub Measures : ℕ → Option Value → List Effect → Type 0
Measures to source = WithValue source (λ value. WithObject value (λ o. Only (gets to Number ∷ [])))

-- the value of a field of an object whose class is below the field's
abbrev pub Loads : LinkedProgram → Point → ℕ → ℕ → Option Value → List Effect → Type 0
Loads p at to field base = WithValue base (λ value. WithObject value (λ o. AtObject at.heap o (λ object.
    Where (HasDeclared p object.class field) (gets to (field_of object field) ∷ []))))

-- a value is written into a field of an object whose class is below the field's. Both operands are read first
abbrev pub Stores : LinkedProgram → Point → ℕ → Option Value → Option Value → List Effect → Type 0
Stores p at field base source = WithValue source (λ stored. WithValue base (λ value. WithObject value (λ o. AtObject at.heap o (λ object.
    Where (HasDeclared p object.class field) (writes o field stored ∷ [])))))

-- where arrays hold arrays of an inner level, one more such array may be found in it: inner arrays come to be when they are looked at
abbrev pub Nests : LinkedProgram → ℕ → ℕ → Site → List Effect → Type 0
Nests p to o outer offered =
    ((inner : Site) × (class : ℕ) × IsInnerSite p outer inner × IsNamedClass p object_name class × Only (nests to o inner class ∷ []) offered)
    ⊎ (((inner : Site) → IsInnerSite p outer inner → ⊥) × Only [] offered)

-- null, or one of the elements of an array, or an index out of its bounds, or one more array within an array of arrays
abbrev pub FindsCell : LinkedProgram → ℕ → ℕ → HeapObject → List Effect → Type 0
FindsCell p to o object offered = (more : List Effect) × Nests p to o object.site more
    × Only (gets to Null ∷ map (λ cell. gets to cell) (cells object) ++ raises 1 ∷ more) offered

-- an element of what is an array, or the load isn't well typed
abbrev pub FindsElement : LinkedProgram → ℕ → ℕ → HeapObject → List Effect → Type 0
FindsElement p to o object offered =
    (IsArraySite p object.site × FindsCell p to o object offered) ⊎ ((IsArraySite p object.site → ⊥) × IllTyped offered)

-- an element of an array
abbrev pub LoadsCell : LinkedProgram → Point → ℕ → Option Value → List Effect → Type 0
LoadsCell p at to base = WithValue base (λ value. WithObject value (λ o. AtObject at.heap o (λ object. FindsElement p to o object)))

-- a value is written into an array, or the index is out of its bounds, or the array's type doesn't take the value. Both operands are read first
abbrev pub StoresCell : LinkedProgram → Point → Option Value → Option Value → List Effect → Type 0
StoresCell p at base source = WithValue source (λ stored. WithValue base (λ value. WithObject value (λ o. AtObject at.heap o (λ object.
    Where (IsArraySite p object.site) (writes o 0 stored ∷ raises 1 ∷ raises 2 ∷ [])))))

-- the value of a static field
abbrev pub LoadsStatic : Point → ℕ → ℕ → List Effect → Type 0
LoadsStatic at to field offered = (value : Value) × (slice_get at.statics field ≡ Some value) × Only (gets to value ∷ []) offered

-- a static field is set
abbrev pub StoresStatic : ℕ → Option Value → List Effect → Type 0
StoresStatic field source = WithValue source (λ value. Only (sets field value ∷ []))

-- method look-up from the class finds the method with this number, which has statements
pub record Finds (p : LinkedProgram) (class key number : ℕ) (m : LinkedMethod) : Type 0 where
  pub row : ℕ
  pub resolved : Resolve p.rows class key (Some row)
  pub numbered : slice_get p.method_rows number ≡ Some row
  pub there : slice_get p.methods number ≡ Some m
  pub has_statements : 0 < length m.code

-- the method that is found from a class is called with this receiver and these arguments; where none is found, the call isn't well typed
abbrev pub Enters : LinkedProgram → ℕ → ℕ → Option Value → List Value → List Effect → Type 0
Enters p class key this args offered =
    ((number : ℕ) × (m : LinkedMethod) × Finds p class key number m × Only (calls (new_frame number m this args) ∷ []) offered)
    ⊎ (((number : ℕ) (m : LinkedMethod) → Finds p class key number m → ⊥) × IllTyped offered)

-- the class is found to be below the one that the call names, or the call isn't well typed
abbrev pub EntersBelow : LinkedProgram → ℕ → ℕ → ℕ → Option Value → List Value → List Effect → Type 0
EntersBelow p class from key this args offered =
    (Sub p.rows from class × Enters p from key this args offered) ⊎ ((Sub p.rows from class → ⊥) × IllTyped offered)

-- the class from which a call's method is looked up: in static and special mode the one that it names, in the others the object's, which is below it
abbrev pub EntersBy : LinkedProgram → Mode → ℕ → ℕ → HeapObject → Option Value → List Value → List Effect → Type 0
EntersBy p Static class key object this args = Enters p class key this args
EntersBy p Special class key object this args = Enters p class key this args
EntersBy p Virtual class key object this args = EntersBelow p class object.class key this args
EntersBy p Interface class key object this args = EntersBelow p class object.class key this args

-- a call on a receiver
abbrev pub CallsOn : LinkedProgram → Point → Mode → ℕ → ℕ → Value → List Value → List Effect → Type 0
CallsOn p at mode class key receiver args =
    WithObject receiver (λ o. AtObject at.heap o (λ object. EntersBy p mode class key object (Some receiver) args))

-- a call, with a receiver or without one, on what its arguments are. All operands are read first
abbrev pub CallsWith : LinkedProgram → Point → Mode → ℕ → ℕ → Option ℕ → Option (List Value) → List Effect → Type 0
CallsWith p at mode class key None (Some args) = Enters p class key None args
CallsWith p at mode class key (Some receiver) (Some args) =
    WithValue (local_of at.top receiver) (λ value. CallsOn p at mode class key value args)
CallsWith p at mode class key receiver None = IllTyped

-- a return, which reads its value also where the caller takes none
abbrev pub GivesBack : Option (Option Value) → List Effect → Type 0
GivesBack None = Only (returns None ∷ [])
GivesBack (Some source) = WithValue source (λ value. Only (returns (Some value) ∷ []))

-- what a return gives back, if it gives something
abbrev pub returned : LinkedProgram → Frame → Option Arg → Option (Option Value)
returned p frame None = None
returned p frame (Some a) = Some (operand_of p frame a)

-- the object is thrown
abbrev pub Throws : Option Value → List Effect → Type 0
Throws source = WithValue source (λ value. WithObject value (λ o. Only (throws o ∷ [])))

-- a monitor is entered or left
abbrev pub Watches : ℕ → Option Value → List Effect → Type 0
Watches next source = WithValue source (λ value. WithObject value (λ o. Only (goes next ∷ [])))

-- the rows of the machine's table
abbrev pub Row : LinkedProgram → Point → Code → List Effect → Type 0
Row p at (This to) = Assigns to at.top.this
Row p at (Param to number) = Assigns to (slice_get at.top.params number)
Row p at (Caught to) = Assigns to at.top.caught
Row p at (Copy to a) = Assigns to (operand_of p at.top a)
Row p at (Cast to a) = Casts to (operand_of p at.top a)
Row p at (New to class) = Only (makes to class ∷ [])
Row p at (NewArray to) = MakesArray p to
Row p at (NewMulti to levels) = MakesArray p to
Row p at (Numeric to divides) = Computes to divides
Row p at (Length to a) = Measures to (operand_of p at.top a)
Row p at (Load to base field) = Loads p at to field (local_of at.top base)
Row p at (Store base field a) = Stores p at field (local_of at.top base) (operand_of p at.top a)
Row p at (LoadCell to base) = LoadsCell p at to (local_of at.top base)
Row p at (StoreCell base a) = StoresCell p at (local_of at.top base) (operand_of p at.top a)
Row p at (LoadStatic to field) = LoadsStatic at to field
Row p at (StoreStatic field a) = StoresStatic field (operand_of p at.top a)
Row p at (Call to mode class key receiver args targets) = CallsWith p at mode class key receiver (operands_of p at.top args)
Row p at (If jump) = Only (goes (at.top.index + 1) ∷ goes jump ∷ [])
Row p at (Goto jump) = Only (goes jump ∷ [])
Row p at (Switch jumps) = Only (map (λ jump. goes jump) jumps)
Row p at (Return a) = GivesBack (returned p at.top a)
Row p at (Throw a) = Throws (operand_of p at.top a)
Row p at (Monitor a) = Watches (at.top.index + 1) (operand_of p at.top a)
Row p at Skip = Only (goes (at.top.index + 1) ∷ [])

-- the handler with this number covers the statement and catches exceptions of the class
abbrev pub MayCatch : LinkedProgram → List Catch → ℕ → ℕ → ℕ → Type 0
MayCatch p handlers t class number =
    (catch : Catch) × (slice_get handlers number ≡ Some catch) × CoversPlace catch t × Sub p.rows class catch.class

-- the first of them, in written order, catches: as the exception table of a method in the Java Virtual Machine Specification
pub record IsCaughtAt (p : LinkedProgram) (handlers : List Catch) (t class handler : ℕ) : Type 0 where
  pub number : ℕ
  pub first : IsLeast (MayCatch p handlers t class) number
  pub catch : Catch
  pub there : slice_get handlers number ≡ Some catch
  pub is_handler : handler ≡ catch.handler

-- an object in flight: the first handler catches it, or it leaves the method
abbrev pub Unwinds : LinkedProgram → LinkedMethod → ℕ → ℕ → ℕ → List Effect → Type 0
Unwinds p m t o class offered =
    ((handler : ℕ) × IsCaughtAt p m.catches t class handler × Only (handles handler o ∷ []) offered)
    ⊎ (((number : ℕ) → MayCatch p m.catches t class number → ⊥) × Only (leaves o ∷ []) offered)

-- what is in flight is an object
abbrev pub UnwindsAt : LinkedProgram → Point → Option Value → List Effect → Type 0
UnwindsAt p at (Some (Object o)) offered = (m : LinkedMethod) × (slice_get p.methods at.top.method ≡ Some m)
    × AtObject at.heap o (λ object. Unwinds p m at.top.index o object.class) offered
UnwindsAt p at _ offered = ⊥

-- by whether an exception is in flight at the top frame's statement
abbrev pub OffersBy : Bool → LinkedProgram → Point → List Effect → Type 0
OffersBy false p at offered = HasCode p at.top.method at.top.index (λ code. Row p at code offered)
OffersBy true p at offered = UnwindsAt p at at.top.thrown offered

-- what the next step may do
abbrev pub Offers : LinkedProgram → Point → List Effect → Type 0
Offers p at offered = OffersBy at.top.raised p at offered
