-- What the steps of a well linked program may do: what is made has an instantiable class, and what is called is found by look-up.
use Rattle.std.proofs.Common.{◌≡◌, ◌≢◌, ℕ, Bool, true, false, Option, Some, None, List, [], ◌∷◌, ◌++◌, ◌+◌, map, is_some, slice_get, refl, subst, inl, inr, All}
use Rattle.class_rules.specs.Rows.{Sub}
use Rattle.jim_ast.specs.declared.syntax.Mode.{Mode}
use Rattle.jim_ast.specs.declared.syntax.Mode.TheVariants.{Special, Virtual, Interface, Static}
use Rattle.link_rules.specs.declared.code.Arg.{Arg}
use Rattle.link_rules.specs.declared.code.Code.{Code}
use Rattle.link_rules.specs.declared.code.Code.TheVariants as code
use Rattle.link_rules.specs.Linked.{LinkedMethod, LinkedProgram}
use Rattle.link_rules.specs.Keys.{is_static_mode}
use Rattle.link_rules.specs.WellLinked.{FitsCode, FitsMethod, IsInstantiableIn, IsWellLinked, IsWellLinkedCode}
use Rattle.link_laws.proofs.Lists.{at_all}
use Rattle.link_sites.specs.declared.site.Site.{Site}
use Rattle.link_sites.specs.Places.{CodeAt}
use Rattle.step_rules.specs.declared.parts.Value.{Value}
use Rattle.step_rules.specs.Effects.{Effect, is_ill_typed, raises, throws, goes, gets, makes, nests, writes, sets, calls, returns, handles, leaves}
use Rattle.step_rules.specs.Offers.{AtObject, Only, Where, WithObject, WithValue, CallsOn, CallsWith, Enters, EntersBelow, EntersBy, Finds, FindsElement, GivesBack, Nests, Offers, OffersBy, Row, UnwindsAt, returned}
use Rattle.link_sites.specs.Sites.{HasDeclared, IsArraySite}
use Rattle.step_rules.specs.Slots.{cells, field_of, local_of, operand_of, operands_of}
use Rattle.step_rules.specs.States.{Frame, HeapObject, Point}
use Rattle.step_rules.specs.declared.parts.Value.TheVariants.{Null, Number, Object}
use Rattle.lists.specs.Lists.{Has}
use Rattle.run_covers.specs.Found.{LooksFrom}
use Rattle.run_covers.proofs.Heap.{object_real}
use Rattle.run_covers.proofs.Offered.{AllOf, all_mapped, ill_typed, mapped, one_of, only, where_so, with_object, with_value}

-- the statement is a call, and looks up the method of the frame
pub record IsCalled (p : LinkedProgram) (at : Point) (frame : Frame) : Type 0 where
  pub to : Option ℕ
  pub mode : Mode
  pub class : ℕ
  pub key : ℕ
  pub receiver : Option ℕ
  pub args : List Arg
  pub targets : List ℕ
  pub here : CodeAt p at.top.method at.top.index (code.Call to mode class key receiver args targets)
  pub from : ℕ
  pub looks : LooksFrom p at.heap mode class from
  pub method : LinkedMethod
  pub finds : Finds p from key frame.method method

-- what is made has an instantiable class, and what is called is found by look-up
abbrev pub IsSound : LinkedProgram → Point → Effect → Type 0
IsSound p at (makes to class) = IsInstantiableIn p class
IsSound p at (nests to o inner class) = IsInstantiableIn p class
IsSound p at (calls frame) = IsCalled p at frame
IsSound p at _ = Unit {0}

module _ (p : LinkedProgram) (well : IsWellLinked p) (at : Point) where
  -- the effects are sound
  abbrev Sound : List Effect → Type 0
  Sound offered = AllOf (IsSound p at) offered

  ill : IsSound p at is_ill_typed
  ill = tt

  null : IsSound p at (raises 0)
  null = tt

  module _ (to : Option ℕ) (mode : Mode) (class key : ℕ) (receiver : Option ℕ) (args : List Arg) (targets : List ℕ)
      (here : CodeAt p at.top.method at.top.index (code.Call to mode class key receiver args targets)) where
    -- a method that is looked up from a class is called
    enters : (from : ℕ) (this : Option Value) (values : List Value) (offered : List Effect) → LooksFrom p at.heap mode class from
        → Enters p from key this values offered → Sound offered
    enters from this values offered looks h = elim h [
      | inl f ↦ only (IsSound p at) _ offered f.3 (
        record {
          to = to;
          mode = mode;
          class = class;
          key = key;
          receiver = receiver;
          args = args;
          targets = targets;
          here = here;
          from = from;
          looks = looks;
          method = f.1;
          finds = f.2;
        },
        tt,
      )
      | inr none ↦ ill_typed (IsSound p at) ill null offered none.1
    ]

    -- one that is looked up from the object's class
    enters_below : (from o : ℕ) (object : HeapObject) (this : Option Value) (values : List Value) (offered : List Effect)
        → slice_get at.heap o ≡ Some object → object.class ≡ from
        → ((below : Sub p.rows from class) → LooksFrom p at.heap mode class from) → EntersBelow p class from key this values offered → Sound offered
    enters_below from o object this values offered there of looks h = elim h [
      | inl f ↦ enters from this values offered (looks f.0) f.1
      | inr other ↦ ill_typed (IsSound p at) ill null offered other.1
    ]

    -- by the mode, on an object
    enters_by : (o : ℕ) (object : HeapObject) (this : Option Value) (values : List Value) (offered : List Effect)
        → slice_get at.heap o ≡ Some object → (m : Mode) → m ≡ mode → EntersBy p m class key object this values offered → Sound offered
    enters_by o object this values offered there Static e h =
        enters class this values offered (subst (λ m. LooksFrom p at.heap m class class) e refl) h
    enters_by o object this values offered there Special e h =
        enters class this values offered (subst (λ m. LooksFrom p at.heap m class class) e refl) h
    enters_by o object this values offered there Virtual e h = enters_below object.class o object this values offered there refl
        (λ below. subst (λ m. LooksFrom p at.heap m class object.class) e (below, record { number = o; object = object; there = there; of_class = refl })) h
    enters_by o object this values offered there Interface e h = enters_below object.class o object this values offered there refl
        (λ below. subst (λ m. LooksFrom p at.heap m class object.class) e (below, record { number = o; object = object; there = there; of_class = refl })) h

    -- without an object, where the mode is static
    enters_alone : (m : Mode) → m ≡ mode → (false ≢ is_static_mode m) → (values : List Value) (offered : List Effect)
        → Enters p class key None values offered → Sound offered
    enters_alone Static e has values offered h = enters class None values offered (subst (λ m. LooksFrom p at.heap m class class) e refl) h
    enters_alone Special e has values offered h = absurd (has refl)
    enters_alone Virtual e has values offered h = absurd (has refl)
    enters_alone Interface e has values offered h = absurd (has refl)

    -- the row of calls
    calls_with : (r : Option ℕ) → (is_some r ≢ is_static_mode mode) → (o : Option (List Value)) (offered : List Effect)
        → CallsWith p at mode class key r o offered → Sound offered
    calls_with None has (Some values) offered h = enters_alone mode refl has values offered h
    calls_with (Some x) has (Some values) offered h =
        with_value (IsSound p at) ill null (local_of at.top x) (λ value. CallsOn p at mode class key value values) offered
        (λ value on. with_object (IsSound p at) ill null value _ offered
        (λ o there. enters_by o there.0 (Some value) values offered there.1 mode refl there.2) on) h
    calls_with None has None offered h = ill_typed (IsSound p at) ill null offered h
    calls_with (Some x) has None offered h = ill_typed (IsSound p at) ill null offered h

  -- a return
  gives_back : (o : Option (Option Value)) (offered : List Effect) → GivesBack o offered → Sound offered
  gives_back None offered h = only (IsSound p at) (returns None ∷ []) offered h (tt, tt)
  gives_back (Some source) offered h = with_value (IsSound p at) ill null source (λ value. Only (returns (Some value) ∷ [])) offered (λ value r. only (IsSound p at) (returns (Some value) ∷ []) offered r (tt, tt)) h

  -- what the code at the top frame is
  fits : (c : Code) → CodeAt p at.top.method at.top.index c → IsWellLinkedCode p c
  fits c here = at_all (IsWellLinkedCode p) here.method.code at.top.index c
      (at_all (λ m. All (IsWellLinkedCode p) m.code) p.methods at.top.method here.method well.codes here.there) here.here

  -- a call has a receiver where its mode isn't static
  has_receiver : (to : Option ℕ) (mode : Mode) (class key : ℕ) (receiver : Option ℕ) (args : List Arg) (targets : List ℕ)
      → CodeAt p at.top.method at.top.index (code.Call to mode class key receiver args targets) → is_some receiver ≢ is_static_mode mode
  has_receiver to mode class key receiver args targets here =
      let m = at_all (FitsMethod p) p.methods at.top.method here.method well.form.methods here.there in
      (at_all (FitsCode p here.method) here.method.code at.top.index (code.Call to mode class key receiver args targets) m.codes here.here).3.0

  -- by an operand, these
  by_value : (source : Option Value) (these : Value → List Effect) (offered : List Effect) → WithValue source (λ v. Only (these v)) offered
      → ((v : Value) → Sound (these v)) → Sound offered
  by_value source these offered h all = with_value (IsSound p at) ill null source (λ v. Only (these v)) offered (λ v r. only (IsSound p at) (these v) offered r (all v)) h

  -- by an object, these
  by_object : (source : Option Value) (these : ℕ → List Effect) (offered : List Effect)
      → WithValue source (λ v. WithObject v (λ o. Only (these o))) offered → ((o : ℕ) → Sound (these o)) → Sound offered
  by_object source these offered h all = with_value (IsSound p at) ill null source (λ v. WithObject v (λ o. Only (these o))) offered
      (λ v r. with_object (IsSound p at) ill null v (λ o. Only (these o)) offered (λ o s. only (IsSound p at) (these o) offered s (all o)) r) h

  -- by an object of the heap and by whether something is so of it, these
  by_access : (source : Option Value) (Fact : HeapObject → Type 0) (these : ℕ → HeapObject → List Effect) (offered : List Effect)
      → WithValue source (λ v. WithObject v (λ o. AtObject at.heap o (λ object. Where (Fact object) (these o object)))) offered
      → ((o : ℕ) (object : HeapObject) → Sound (these o object)) → Sound offered
  by_access source Fact these offered h all =
      with_value (IsSound p at) ill null source (λ v. WithObject v (λ o. AtObject at.heap o (λ object. Where (Fact object) (these o object)))) offered
      (λ v r. with_object (IsSound p at) ill null v (λ o. AtObject at.heap o (λ object. Where (Fact object) (these o object))) offered
      (λ o s. where_so (IsSound p at) ill null (Fact s.0) (these o s.0) offered (all o s.0) s.2) r) h

  -- a store, which reads what is stored first
  by_store : (source base : Option Value) (Fact : HeapObject → Type 0) (these : Value → ℕ → HeapObject → List Effect) (offered : List Effect)
      → WithValue source (λ w. WithValue base (λ v. WithObject v (λ o. AtObject at.heap o (λ object. Where (Fact object) (these w o object))))) offered
      → ((w : Value) (o : ℕ) (object : HeapObject) → Sound (these w o object)) → Sound offered
  by_store source base Fact these offered h all = with_value (IsSound p at) ill null source
      (λ w. WithValue base (λ v. WithObject v (λ o. AtObject at.heap o (λ object. Where (Fact object) (these w o object))))) offered
      (λ w r. by_access base Fact (these w) offered r (all w)) h

  -- one more array within an array of arrays, or none
  nests_one : (to o : ℕ) (outer : Site) (more : List Effect) → Nests p to o outer more → Sound more
  nests_one to o outer more h = elim h [
    | inl inner ↦ only (IsSound p at) (nests to o inner.0 inner.1 ∷ []) more inner.4 (object_real p well inner.1 inner.3, tt)
    | inr none ↦ only (IsSound p at) [] more none.1 tt
  ]

  -- an element of an array
  element : (to o : ℕ) (object : HeapObject) (offered : List Effect) → FindsElement p to o object offered → Sound offered
  element to o object offered h = elim h [
    | inl found ↦
        let cell = found.1 in
        only (IsSound p at) (gets to Null ∷ map (λ cell. gets to cell) (cells object) ++ raises 1 ∷ cell.0) offered cell.2
        (tt, mapped (IsSound p at) (λ cell. gets to cell) (cells object) (raises 1 ∷ cell.0) (λ cell. tt) (tt, nests_one to o object.site cell.0 cell.1))
    | inr other ↦ ill_typed (IsSound p at) ill null offered other.1
  ]

  -- the rows of the table
  rows : (c : Code) (offered : List Effect) → CodeAt p at.top.method at.top.index c → Row p at c offered → Sound offered
  rows (code.This to) offered here h = by_value at.top.this (λ v. gets to v ∷ []) offered h (λ v. (tt, tt))
  rows (code.Param to number) offered here h = by_value (slice_get at.top.params number) (λ v. gets to v ∷ []) offered h (λ v. (tt, tt))
  rows (code.Caught to) offered here h = by_value at.top.caught (λ v. gets to v ∷ []) offered h (λ v. (tt, tt))
  rows (code.Copy to a) offered here h = by_value (operand_of p at.top a) (λ v. gets to v ∷ []) offered h (λ v. (tt, tt))
  rows (code.Cast to a) offered here h = by_value (operand_of p at.top a) (λ v. gets to v ∷ raises 4 ∷ []) offered h (λ v. (tt, (tt, tt)))
  rows (code.New to class) offered here h = only (IsSound p at) (makes to class ∷ []) offered h (fits (code.New to class) here, tt)
  rows (code.NewArray to) offered here h = only (IsSound p at) (makes to h.0 ∷ raises 3 ∷ []) offered h.2 (object_real p well h.0 h.1, (tt, tt))
  rows (code.NewMulti to levels) offered here h = only (IsSound p at) (makes to h.0 ∷ raises 3 ∷ []) offered h.2 (object_real p well h.0 h.1, (tt, tt))
  rows (code.Numeric to true) offered here h = only (IsSound p at) (gets to Number ∷ raises 5 ∷ []) offered h (tt, (tt, tt))
  rows (code.Numeric to false) offered here h = only (IsSound p at) (gets to Number ∷ []) offered h (tt, tt)
  rows (code.Length to a) offered here h = by_object (operand_of p at.top a) (λ o. gets to Number ∷ []) offered h (λ o. (tt, tt))
  rows (code.Load to base field) offered here h =
      by_access (local_of at.top base) (λ object. HasDeclared p object.class field) (λ o object. gets to (field_of object field) ∷ []) offered h (λ o object. (tt, tt))
  rows (code.Store base field a) offered here h =
      by_store (operand_of p at.top a) (local_of at.top base) (λ object. HasDeclared p object.class field) (λ w o object. writes o field w ∷ []) offered h (λ w o object. (tt, tt))
  rows (code.LoadCell to base) offered here h =
      with_value (IsSound p at) ill null (local_of at.top base) (λ v. WithObject v (λ o. AtObject at.heap o (λ object. FindsElement p to o object))) offered
      (λ v r. with_object (IsSound p at) ill null v (λ o. AtObject at.heap o (λ object. FindsElement p to o object)) offered (λ o s. element to o s.0 offered s.2) r) h
  rows (code.StoreCell base a) offered here h =
      by_store (operand_of p at.top a) (local_of at.top base) (λ object. IsArraySite p object.site) (λ w o object. writes o 0 w ∷ raises 1 ∷ raises 2 ∷ []) offered h
      (λ w o object. (tt, (tt, (tt, tt))))
  rows (code.LoadStatic to field) offered here h = only (IsSound p at) (gets to h.0 ∷ []) offered h.2 (tt, tt)
  rows (code.StoreStatic field a) offered here h = by_value (operand_of p at.top a) (λ v. sets field v ∷ []) offered h (λ v. (tt, tt))
  rows (code.Call to mode class key receiver args targets) offered here h =
      calls_with to mode class key receiver args targets here receiver (has_receiver to mode class key receiver args targets here) (operands_of p at.top args) offered h
  rows (code.If jump) offered here h = only (IsSound p at) (goes (at.top.index + 1) ∷ goes jump ∷ []) offered h (tt, (tt, tt))
  rows (code.Goto jump) offered here h = only (IsSound p at) (goes jump ∷ []) offered h (tt, tt)
  rows (code.Switch jumps) offered here h =
      only (IsSound p at) (map (λ jump. goes jump) jumps) offered h (all_mapped (IsSound p at) (λ jump. goes jump) jumps (λ jump. tt))
  rows (code.Return a) offered here h = gives_back (returned p at.top a) offered h
  rows (code.Throw a) offered here h = by_object (operand_of p at.top a) (λ o. throws o ∷ []) offered h (λ o. (tt, tt))
  rows (code.Monitor a) offered here h = by_object (operand_of p at.top a) (λ o. goes (at.top.index + 1) ∷ []) offered h (λ o. (tt, tt))
  rows code.Skip offered here h = only (IsSound p at) (goes (at.top.index + 1) ∷ []) offered h (tt, tt)

  -- what is in flight is caught or leaves
  unwinds : (thrown : Option Value) (offered : List Effect) → UnwindsAt p at thrown offered → Sound offered
  unwinds (Some (Object o)) offered h = elim h.2.2 [
    | inl caught ↦ only (IsSound p at) (handles caught.0 o ∷ []) offered caught.2 (tt, tt)
    | inr none ↦ only (IsSound p at) (leaves o ∷ []) offered none.1 (tt, tt)
  ]
  unwinds (Some Null) offered h = elim h [ ]
  unwinds (Some Number) offered h = elim h [ ]
  unwinds None offered h = elim h [ ]

  by_flight : (raised : Bool) (offered : List Effect) → OffersBy raised p at offered → Sound offered
  by_flight false offered h = rows h.code offered h.at h.is_so
  by_flight true offered h = unwinds at.top.thrown offered h

  -- all that a step may do is sound
  pub offers_sound : (offered : List Effect) (e : Effect) → Offers p at offered → Has offered e → IsSound p at e
  offers_sound offered e h has = one_of (IsSound p at) offered e (by_flight at.top.raised offered h) has
