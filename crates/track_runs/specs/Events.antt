-- Events: the calls by which the objects of a protocol change their states (Strom and Yemini 1986).
use Rattle.std.specs.Prelude.{◌≡◌, ℕ, None, Some, slice_get}
use Rattle.class_rules.specs.Rows.{Sub}
use Rattle.link_rules.specs.declared.code.Code.{Code}
use Rattle.link_rules.specs.declared.code.Code.TheVariants.{This, Param, Caught, Copy, Cast, New, NewArray, NewMulti, Numeric, Length, Load, Store, LoadCell, StoreCell, LoadStatic, StoreStatic, Call, If, Goto, Switch, Return, Throw, Monitor, Skip}
use Rattle.link_rules.specs.Linked.{LinkedKey, LinkedProgram}
use Rattle.link_rules.specs.WellLinked.{IsInstantiableIn}
use Rattle.link_sites.specs.Places.{HasCode}
use Rattle.track_rules.specs.Protocols.{ProtocolParts}

-- a class that may have objects is below both
pub record HasBelow (p : LinkedProgram) (a b : ℕ) : Type 0 where
  pub class : ℕ
  pub instantiable : IsInstantiableIn p class
  pub below_a : Sub p.rows class a
  pub below_b : Sub p.rows class b

-- a call of methods of the key, by this class, is the event: the methods have its name, and some object of the protocol's class may be of this one too
pub record CallsEvent (p : LinkedProgram) (k : ProtocolParts) (event class key : ℕ) : Type 0 where
  pub methods : LinkedKey
  pub there : slice_get p.keys key ≡ Some methods
  pub named : slice_get k.events event ≡ Some methods.name
  pub below : HasBelow p k.class class

-- the statement is a call with a receiver, and the event. In which mode it calls doesn't matter
abbrev pub IsEventCall : LinkedProgram → ProtocolParts → ℕ → Code → Type 0
IsEventCall p k event (Call to mode class key (Some receiver) args targets) = CallsEvent p k event class key
IsEventCall p k event (Call to mode class key None args targets) = ⊥
IsEventCall p k event (This to) = ⊥
IsEventCall p k event (Param to number) = ⊥
IsEventCall p k event (Caught to) = ⊥
IsEventCall p k event (Copy to arg) = ⊥
IsEventCall p k event (Cast to arg) = ⊥
IsEventCall p k event (New to made) = ⊥
IsEventCall p k event (NewArray to) = ⊥
IsEventCall p k event (NewMulti to levels) = ⊥
IsEventCall p k event (Numeric to divides) = ⊥
IsEventCall p k event (Length to arg) = ⊥
IsEventCall p k event (Load to base field) = ⊥
IsEventCall p k event (Store base field arg) = ⊥
IsEventCall p k event (LoadCell to base) = ⊥
IsEventCall p k event (StoreCell base arg) = ⊥
IsEventCall p k event (LoadStatic to field) = ⊥
IsEventCall p k event (StoreStatic field arg) = ⊥
IsEventCall p k event (If jump) = ⊥
IsEventCall p k event (Goto jump) = ⊥
IsEventCall p k event (Switch jumps) = ⊥
IsEventCall p k event (Return arg) = ⊥
IsEventCall p k event (Throw arg) = ⊥
IsEventCall p k event (Monitor arg) = ⊥
IsEventCall p k event Skip = ⊥

-- the statement at an index of a method is the event
abbrev pub IsEventAt : LinkedProgram → ProtocolParts → ℕ → ℕ → ℕ → Type 0
IsEventAt p k event method index = HasCode p method index (IsEventCall p k event)
