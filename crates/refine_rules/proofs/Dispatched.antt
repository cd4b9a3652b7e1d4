-- What is entered at a call on an object is found from the class of the object that its receiver holds.
use Rattle.std.proofs.Common.{◌≡◌, ℕ, zero, suc, List, [], ◌∷◌, Bool, true, false, Option, Some, None, slice_get, refl, ap, subst, inl, inr}
use Rattle.class_rules.specs.Rows.{Sub}
use Rattle.lists.specs.Lists.{Has}
use Rattle.jim_ast.specs.declared.syntax.Mode.{Mode}
use Rattle.jim_ast.specs.declared.syntax.Mode.TheVariants.{Special, Virtual, Interface, Static}
use Rattle.link_rules.specs.declared.code.Arg.{Arg}
use Rattle.link_rules.specs.declared.code.Code.TheVariants as code
use Rattle.link_rules.specs.Linked.{LinkedMethod, LinkedProgram}
use Rattle.link_sites.specs.Places.{CodeAt}
use Rattle.step_rules.specs.declared.parts.Value.{Value}
use Rattle.step_rules.specs.declared.parts.Value.TheVariants.{Null, Number, Object}
use Rattle.step_rules.specs.Effects.{Effect, is_ill_typed, raises, calls, handles, leaves}
use Rattle.step_rules.specs.Offers.{CallsOn, CallsWith, Enters, EntersBelow, EntersBy, Finds, Offers, OffersBy, Row, UnwindsAt, WithValue}
use Rattle.step_rules.specs.Slots.{local_of, operands_of}
use Rattle.step_rules.specs.States.{Frame, HeapObject, Point, new_frame}
use Rattle.refine_rules.specs.Refined.{GoesByObject}

-- the receiver holds an object, from whose class, which is below the one that is called, look-up finds the frame's method
pub record IsDispatched (p : LinkedProgram) (at : Point) (class key : ℕ) (receiver : Option ℕ) (frame : Frame) : Type 0 where
  pub unraised : at.top.raised ≡ false
  pub x : ℕ
  pub is_x : receiver ≡ Some x
  pub o : ℕ
  pub holds : local_of at.top x ≡ Some (Object o)
  pub object : HeapObject
  pub there : slice_get at.heap o ≡ Some object
  pub below : Sub p.rows object.class class
  pub method : LinkedMethod
  pub finds : Finds p object.class key frame.method method

-- the method of a call
abbrev called_by : Effect → Option ℕ
called_by (calls frame) = Some frame.method
called_by e = None

-- one effect is at one place
one_effect : (e f : Effect) (offered : List Effect) → offered ≡ e ∷ [] → Has offered f → e ≡ f
one_effect e f offered is has = at_place has.0 (subst (λ es. slice_get es has.0 ≡ Some f) is has.1) where
  at_place : (i : ℕ) → slice_get (e ∷ []) i ≡ Some f → e ≡ f
  at_place zero h = cc
  at_place (suc i) h = cc

-- an effect that is no call isn't one
no_call : (e : Effect) (frame : Frame) (offered : List Effect) → called_by e ≡ None → offered ≡ e ∷ [] → Has offered (calls frame) → ⊥
no_call e frame offered none is has = let same = ap called_by (one_effect e (calls frame) offered is has) in cc (same, none)

module _ (p : LinkedProgram) (at : Point) (frame : Frame) where
  -- the method that is entered from a class
  entered : (from key : ℕ) (this : Option Value) (values : List Value) (offered : List Effect) → Has offered (calls frame)
      → Enters p from key this values offered → (m : LinkedMethod) × Finds p from key frame.method m
  entered from key this values offered has h = elim h [
    | inl f ↦
        let same = ap called_by (one_effect (calls (new_frame f.0 f.1 this values)) (calls frame) offered f.3 has) in
        let number : f.0 ≡ frame.method = cc in
        (f.1, subst (λ k. Finds p from key k f.1) number f.2)
    | inr none ↦ absurd (no_call is_ill_typed frame offered refl none.1 has)
  ]

  -- from the class of an object that is below the one that is called
  entered_below : (class from key : ℕ) (this : Option Value) (values : List Value) (offered : List Effect) → Has offered (calls frame)
      → EntersBelow p class from key this values offered → Sub p.rows from class × ((m : LinkedMethod) × Finds p from key frame.method m)
  entered_below class from key this values offered has h = elim h [
    | inl f ↦ (f.0, entered from key this values offered has f.1)
    | inr other ↦ absurd (no_call is_ill_typed frame offered refl other.1 has)
  ]

  entered_by : (mode : Mode) → GoesByObject mode → (class key : ℕ) (object : HeapObject) (this : Option Value) (values : List Value) (offered : List Effect)
      → Has offered (calls frame) → EntersBy p mode class key object this values offered
      → Sub p.rows object.class class × ((m : LinkedMethod) × Finds p object.class key frame.method m)
  entered_by Static by_object class key object this values offered has h = elim by_object [ ]
  entered_by Special by_object class key object this values offered has h = elim by_object [ ]
  entered_by Virtual by_object class key object this values offered has h = entered_below class object.class key this values offered has h
  entered_by Interface by_object class key object this values offered has h = entered_below class object.class key this values offered has h

  module _ (mode : Mode) (goes_by : GoesByObject mode) (class key : ℕ) (receiver : Option ℕ) (unraised : at.top.raised ≡ false) where
    -- on what a local holds
    on_local : (x : ℕ) → receiver ≡ Some x → (held : Option Value) → local_of at.top x ≡ held → (values : List Value) (offered : List Effect)
        → Has offered (calls frame) → WithValue held (λ value. CallsOn p at mode class key value values) offered
        → IsDispatched p at class key receiver frame
    on_local x is_x (Some (Object o)) holds values offered has h =
        let e = entered_by mode goes_by class key h.0 (Some (Object o)) values offered has h.2 in
        record {
          unraised = unraised;
          x = x;
          is_x = is_x;
          o = o;
          holds = holds;
          object = h.0;
          there = h.1;
          below = e.0;
          method = e.1.0;
          finds = e.1.1;
        }
    on_local x is_x (Some Null) holds values offered has h = absurd (no_call (raises 0) frame offered refl h has)
    on_local x is_x (Some Number) holds values offered has h = absurd (no_call is_ill_typed frame offered refl h has)
    on_local x is_x None holds values offered has h = absurd (no_call is_ill_typed frame offered refl h has)

    -- the row of calls, where the call has a receiver
    calls_with : (r : Option ℕ) → receiver ≡ r → (r ≡ None → ⊥) → (args : Option (List Value)) (offered : List Effect) → Has offered (calls frame)
        → CallsWith p at mode class key r args offered → IsDispatched p at class key receiver frame
    calls_with None is some (Some values) offered has h = absurd (some refl)
    calls_with (Some x) is some (Some values) offered has h = on_local x is (local_of at.top x) refl values offered has h
    calls_with None is some None offered has h = absurd (some refl)
    calls_with (Some x) is some None offered has h = absurd (no_call is_ill_typed frame offered refl h has)

  -- nothing is entered while an exception is in flight
  none_in_flight : (thrown : Option Value) (offered : List Effect) → Has offered (calls frame) → UnwindsAt p at thrown offered → ⊥
  none_in_flight (Some (Object o)) offered has h = elim h.2.2 [
    | inl caught ↦ no_call (handles caught.0 o) frame offered refl caught.2 has
    | inr none ↦ no_call (leaves o) frame offered refl none.1 has
  ]
  none_in_flight (Some Null) offered has h = elim h [ ]
  none_in_flight (Some Number) offered has h = elim h [ ]
  none_in_flight None offered has h = elim h [ ]

  -- so it is at each call on an object
  pub dispatched : (to : Option ℕ) (mode : Mode) (class key : ℕ) (receiver : Option ℕ) (args : List Arg) (targets : List ℕ) → GoesByObject mode
      → (receiver ≡ None → ⊥) → CodeAt p at.top.method at.top.index (code.Call to mode class key receiver args targets) → (offered : List Effect)
      → Offers p at offered → Has offered (calls frame) → IsDispatched p at class key receiver frame
  dispatched to mode class key receiver args targets goes_by some here offered offers has = by at.top.raised refl offers where
    by : (raised : Bool) → at.top.raised ≡ raised → OffersBy raised p at offered → IsDispatched p at class key receiver frame
    by false is h =
        let method : here.method ≡ h.at.method = let a = here.there in let b = h.at.there in cc (a, b) in
        let same : h.code ≡ code.Call to mode class key receiver args targets =
        let a = here.here in let b = h.at.here in cc (a, b, method) in
        calls_with mode goes_by class key receiver is receiver refl some (operands_of p at.top args) offered has
        (subst (λ c. Row p at c offered) same h.is_so)
    by true is h = absurd (none_in_flight at.top.thrown offered has h)
