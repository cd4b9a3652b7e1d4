-- Each state of a run that goes on has a step.
use Rattle.std.proofs.Common.{◌≡◌, ℕ, zero, suc, ◌+◌, ◌<◌, ◌⊎◌, List, [], ◌∷◌, ◌++◌, Option, Some, None, Bool, true, false, length, map, slice_get, refl, ap, ◌∙◌, subst, arith, inl, inr}
use Rattle.class_rules.proofs.Decided.{IsDecided, same_decided, sub_decided}
use Rattle.lists.proofs.Places.{slice_get-there}
use Rattle.jim_ast.specs.declared.syntax.Mode.{Mode}
use Rattle.jim_ast.specs.declared.syntax.Mode.TheVariants.{Special, Virtual, Interface, Static}
use Rattle.link_rules.specs.Accessed.{linked_class_names}
use Rattle.link_rules.specs.declared.code.Code.{Code}
use Rattle.link_rules.specs.declared.code.Code.TheVariants.{This, Param, Caught, Copy, Cast, New, NewArray, NewMulti, Numeric, Length, Load, Store, LoadCell, StoreCell, LoadStatic, StoreStatic, Call, If, Goto, Switch, Return, Throw, Monitor, Skip}
use Rattle.link_rules.specs.Linked.{LinkedClass, LinkedMethod, LinkedProgram}
use Rattle.link_rules.specs.Targets.{exception_names, nine_names}
use Rattle.link_rules.specs.WellLinked.{FitsCode, FitsMethod, HasClass, IsInForm}
use Rattle.link_sites.specs.declared.site.Site.{Site}
use Rattle.link_sites.specs.Sites.{IsClassOfRaised, IsNamedClass}
use Rattle.step_rules.specs.declared.parts.Slot.TheVariants as slot
use Rattle.step_rules.specs.declared.parts.Value.{Value}
use Rattle.step_rules.specs.declared.parts.Value.TheVariants.{Null, Number, Object}
use Rattle.step_rules.specs.Effects.{Effect, is_ill_typed, raises, throws, goes, gets, makes, nests, writes, sets, calls, returns, handles, leaves}
use Rattle.step_rules.specs.Laws.{HasSteps, RunsBegin, RunsGoOn}
use Rattle.step_rules.specs.Offers.{AtObject, CallsWith, Enters, EntersBelow, EntersBy, FindsElement, IllTyped, MakesArray, Nests, Offers, OffersBy, Only, Row, Unwinds, UnwindsAt, Where, WithObject, WithValue}
use Rattle.step_rules.specs.Shapes.{FitsEffect, FitsPoint, FitsSlot, FitsValue, HasShapeBy, IsCall, IsInFlight, EachOf, Waits}
use Rattle.step_rules.specs.Slots.{cells, field_of, local_of, operand_of, operands_of}
use Rattle.step_rules.specs.States.{Frame, HeapObject, Point, State, new_frame, running, state_of, under}
use Rattle.step_rules.specs.Steps.{Becomes, ReceivesAt}
use Rattle.step_rules.proofs.Deciding.{array_decided, declared_decided, finds_decided, first_handler, inner_decided, least_of, same_text_decided}
use Rattle.step_rules.proofs.Firsts.{run_fits}
use Rattle.step_rules.proofs.Fitting.{operand_fits}
use Rattle.step_rules.proofs.Listing.{at_all, each_last}
use Rattle.step_rules.proofs.Offering.{offers_fit}

-- something is offered
abbrev IsMet : (List Effect → Type 0) → Type 0
IsMet Row = (offered : List Effect) × Row offered × (0 < length offered)

-- some effects are
these : (e : Effect) (es : List Effect) → IsMet (Only (e ∷ es))
these e es = (e ∷ es, refl, omega arith)

-- the parts of the table
ill : IsMet IllTyped
ill = these is_ill_typed []

value_met : (source : Option Value) (Rest : Value → List Effect → Type 0) → ((v : Value) → source ≡ Some v → IsMet (Rest v)) → IsMet (WithValue source Rest)
value_met (Some v) Rest rest = rest v refl
value_met None Rest rest = ill

object_met : (count : ℕ) (v : Value) (Rest : ℕ → List Effect → Type 0) → FitsValue count v → ((o : ℕ) → o < count → IsMet (Rest o)) → IsMet (WithObject v Rest)
object_met count (Object o) Rest fits rest = rest o fits
object_met count Null Rest fits rest = these (raises 0) []
object_met count Number Rest fits rest = ill

-- by the object that a slot holds
slot_met : (count : ℕ) (source : Option Value) (Rest : ℕ → List Effect → Type 0) → FitsSlot count source → ((o : ℕ) → o < count → IsMet (Rest o))
    → IsMet (WithValue source (λ v. WithObject v Rest))
slot_met count (Some v) Rest fits rest = object_met count v Rest fits rest
slot_met count None Rest fits rest = ill

heap_met : (heap : List HeapObject) (o : ℕ) (Rest : HeapObject → List Effect → Type 0) → o < length heap → ((object : HeapObject) → IsMet (Rest object))
    → IsMet (AtObject heap o Rest)
heap_met heap o Rest below rest =
    let object = slice_get-there heap o below in
    let met = rest object.0 in
    (met.0, (object.0, object.1, met.1), met.2)

where_met : (Fact : Type 0) (e : Effect) (es : List Effect) → IsDecided Fact → IsMet (Where Fact (e ∷ es))
where_met Fact e es (inl so) = (e ∷ es, inl (so, refl), omega arith)
where_met Fact e es (inr other) = (is_ill_typed ∷ [], inr (other, refl), omega arith)

-- one of the nine classes is there
pub named : (p : LinkedProgram) → IsInForm p → (i : ℕ) (name : List ℕ) → slice_get nine_names i ≡ Some name → (class : ℕ) × IsNamedClass p name class
named p form i name e =
    let class = at_all (HasClass p) nine_names i name form.nine e in
    least_of (λ i. slice_get (linked_class_names p.classes) i ≡ Some name) (λ i. name_decided i) class.0 (mapped p.classes class.0 class.1 class.2 class.3)
  where
    mapped : (classes : List LinkedClass) (number : ℕ) (class : LinkedClass) → slice_get classes number ≡ Some class → class.name ≡ name
        → slice_get (linked_class_names classes) number ≡ Some name
    mapped [] number class there is = cc
    mapped (c ∷ cs) zero class there is = let same : c ≡ class = cc in ap Some (ap (λ (c : LinkedClass). c.name) same ∙ is)
    mapped (c ∷ cs) (suc number) class there is = mapped cs number class there is

    name_decided : (i : ℕ) → IsDecided (slice_get (linked_class_names p.classes) i ≡ Some name)
    name_decided i = by (slice_get (linked_class_names p.classes) i) where
      by : (o : Option (List ℕ)) → IsDecided (o ≡ Some name)
      by None = inr (λ e. cc)
      by (Some text) = same_decided (λ e. ap Some e) inside (same_text_decided text name) where
        inside : Some text ≡ Some name → text ≡ name
        inside e = cc

module _ (p : LinkedProgram) (at : Point) (form : IsInForm p) (fits : FitsPoint p at) where
  -- a method that is looked up from a class is called, or the call isn't well typed
  enters_met : (class key : ℕ) (this : Option Value) (args : List Value) → IsMet (Enters p class key this args)
  enters_met class key this args = elim (finds_decided p class key) [
    | inl f ↦ (calls (new_frame f.0 f.1 this args) ∷ [], inl (f.0, f.1, f.2, refl), omega arith)
    | inr none ↦ (is_ill_typed ∷ [], inr ((λ number m finds. none (number, m, finds)), refl), omega arith)
  ]

  below_met : (class from key : ℕ) (this : Option Value) (args : List Value) → IsMet (EntersBelow p class from key this args)
  below_met class from key this args = elim (sub_decided p.rows from class) [
    | inl below ↦ let met = enters_met from key this args in (met.0, inl (below, met.1), met.2)
    | inr other ↦ (is_ill_typed ∷ [], inr (other, refl), omega arith)
  ]

  by_met : (mode : Mode) (class key : ℕ) (object : HeapObject) (this : Option Value) (args : List Value) → IsMet (EntersBy p mode class key object this args)
  by_met Static class key object this args = enters_met class key this args
  by_met Special class key object this args = enters_met class key this args
  by_met Virtual class key object this args = below_met class object.class key this args
  by_met Interface class key object this args = below_met class object.class key this args

  calls_met : (mode : Mode) (class key : ℕ) (receiver : Option ℕ) (args : Option (List Value)) → IsMet (CallsWith p at mode class key receiver args)
  calls_met mode class key None (Some args) = enters_met class key None args
  calls_met mode class key (Some receiver) (Some args) =
      value_met (local_of at.top receiver) _ (λ v is. object_met (length at.heap) v _ (value_fits v is) (λ o below.
      heap_met at.heap o _ below (λ object. by_met mode class key object (Some v) args)))
    where
      value_fits : (v : Value) → local_of at.top receiver ≡ Some v → FitsValue (length at.heap) v
      value_fits v is = subst (FitsSlot (length at.heap)) is (fits.top.holds (slot.Local receiver))
  calls_met mode class key receiver None = ill

  -- the statement of the top frame, in a method of the program
  module _ (m : LinkedMethod) (there : slice_get p.methods at.top.method ≡ Some m) where
    now : (code : Code) → slice_get m.code at.top.index ≡ Some code → FitsCode p m code
    now code here = at_all (FitsCode p m) m.code at.top.index code (at_all (FitsMethod p) p.methods at.top.method m form.methods there).codes here

    -- an array
    array_met : (to : ℕ) → IsMet (MakesArray p to)
    array_met to = let class = named p form 0 _ refl in (makes to class.0 ∷ raises 3 ∷ [], (class.0, class.1, refl), omega arith)

    -- an array of an inner level, or none
    nests_met : (to o : ℕ) (outer : Site) → (more : List Effect) × Nests p to o outer more
    nests_met to o outer = elim (inner_decided p outer) [
      | inl h ↦ let class = named p form 0 _ refl in (nests to o h.0 class.0 ∷ [], inl (h.0, class.0, h.1, class.1, refl))
      | inr none ↦ ([], inr ((λ inner h. none (inner, h)), refl))
    ]

    -- an element of an array
    cell_met : (to o : ℕ) (object : HeapObject) → IsMet (FindsElement p to o object)
    cell_met to o object = elim (array_decided p object.site) [
      | inl is ↦ let more = nests_met to o object.site in
          (gets to Null ∷ map (λ cell. gets to cell) (cells object) ++ raises 1 ∷ more.0, inl (is, (more.0, more.1, refl)), omega arith)
      | inr other ↦ (is_ill_typed ∷ [], inr (other, refl), omega arith)
    ]

    -- each row of the table
    row_met : (code : Code) → slice_get m.code at.top.index ≡ Some code → IsMet (Row p at code)
    row_met (This to) here = value_met at.top.this _ (λ v is. these (gets to v) [])
    row_met (Param to number) here = value_met (slice_get at.top.params number) _ (λ v is. these (gets to v) [])
    row_met (Caught to) here = value_met at.top.caught _ (λ v is. these (gets to v) [])
    row_met (Copy to a) here = value_met (operand_of p at.top a) _ (λ v is. these (gets to v) [])
    row_met (Cast to a) here = value_met (operand_of p at.top a) _ (λ v is. these (gets to v) (raises 4 ∷ []))
    row_met (New to class) here = these (makes to class) []
    row_met (NewArray to) here = array_met to
    row_met (NewMulti to levels) here = array_met to
    row_met (Numeric to true) here = these (gets to Number) (raises 5 ∷ [])
    row_met (Numeric to false) here = these (gets to Number) []
    row_met (Length to a) here =
        slot_met (length at.heap) (operand_of p at.top a) _ (operand_fits p at fits m a (now (Length to a) here).1) (λ o below. these (gets to Number) [])
    row_met (Load to base field) here =
        slot_met (length at.heap) (local_of at.top base) _ (fits.top.holds (slot.Local base)) (λ o below.
        heap_met at.heap o _ below (λ object. where_met _ (gets to (field_of object field)) [] (declared_decided p object.class field)))
    row_met (Store base field a) here = value_met (operand_of p at.top a) _ (λ v is.
        slot_met (length at.heap) (local_of at.top base) _ (fits.top.holds (slot.Local base)) (λ o below.
        heap_met at.heap o _ below (λ object. where_met _ (writes o field v) [] (declared_decided p object.class field))))
    row_met (LoadCell to base) here =
        slot_met (length at.heap) (local_of at.top base) _ (fits.top.holds (slot.Local base)) (λ o below.
        heap_met at.heap o _ below (λ object. cell_met to o object))
    row_met (StoreCell base a) here = value_met (operand_of p at.top a) _ (λ v is.
        slot_met (length at.heap) (local_of at.top base) _ (fits.top.holds (slot.Local base)) (λ o below.
        heap_met at.heap o _ below (λ object. where_met _ (writes o 0 v) (raises 1 ∷ raises 2 ∷ []) (array_decided p object.site))))
    row_met (LoadStatic to field) here =
        let value = slice_get-there at.statics field (omega (arith, fits.as_many, (now (LoadStatic to field) here).1)) in
        (gets to value.0 ∷ [], (value.0, value.1, refl), omega arith)
    row_met (StoreStatic field a) here = value_met (operand_of p at.top a) _ (λ v is. these (sets field v) [])
    row_met (Call to mode class key receiver args targets) here = calls_met mode class key receiver (operands_of p at.top args)
    row_met (If jump) here = these (goes (at.top.index + 1)) (goes jump ∷ [])
    row_met (Goto jump) here = these (goes jump) []
    row_met (Switch []) here = absurd (now (Switch []) here refl)
    row_met (Switch (jump ∷ jumps)) here = these (goes jump) (map (λ jump. goes jump) jumps)
    row_met (Return None) here = these (returns None) []
    row_met (Return (Some a)) here = value_met (operand_of p at.top a) _ (λ v is. these (returns (Some v)) [])
    row_met (Throw a) here =
        slot_met (length at.heap) (operand_of p at.top a) _ (operand_fits p at fits m a (now (Throw a) here)) (λ o below. these (throws o) [])
    row_met (Monitor a) here =
        slot_met (length at.heap) (operand_of p at.top a) _ (operand_fits p at fits m a (now (Monitor a) here)) (λ o below. these (goes (at.top.index + 1)) [])
    row_met Skip here = these (goes (at.top.index + 1)) []

  -- an exception in flight is caught, or leaves the method
  unwinds_met : (m : LinkedMethod) (t o class : ℕ) → IsMet (Unwinds p m t o class)
  unwinds_met m t o class = elim (first_handler p m.catches t class) [
    | inl first ↦
        let catch = first.1.holds.0 in
        (handles catch.handler o ∷ [], inl (catch.handler, record { number = first.0; first = first.1; catch = catch; there = first.1.holds.1; is_handler = refl }, refl), omega arith)
    | inr none ↦ (leaves o ∷ [], inr (none, refl), omega arith)
  ]

  unwinds_at_met : (thrown : Option Value) → FitsSlot (length at.heap) thrown → IsInFlight true thrown → IsMet (UnwindsAt p at thrown)
  unwinds_at_met (Some (Object o)) below flies =
      let met = heap_met at.heap o _ below (λ object. unwinds_met fits.top.method at.top.index o object.class) in
      (met.0, (fits.top.method, fits.top.there, met.1), met.2)
  unwinds_at_met (Some Null) below flies = absurd flies
  unwinds_at_met (Some Number) below flies = absurd flies
  unwinds_at_met None below flies = absurd flies

  -- the state offers something
  offers_met : IsMet (Offers p at)
  offers_met = by at.top.raised fits.top.flight where
    by : (raised : Bool) → IsInFlight raised at.top.thrown → IsMet (OffersBy raised p at)
    by false calm =
        let code = slice_get-there fits.top.method.code at.top.index fits.top.within in
        let met = row_met fits.top.method fits.top.there code.0 code.1 in
        (met.0, record { code = code.0; at = record { method = fits.top.method; there = fits.top.there; here = code.1 }; is_so = met.1 }, met.2)
    by true flies = unwinds_at_met at.top.thrown (fits.top.holds slot.Thrown) flies

  -- the class of an implicit exception is there
  raised_class : (kind : ℕ) → kind < 6 → (class : ℕ) × IsClassOfRaised p kind class
  raised_class kind below =
      let name = slice_get-there exception_names kind below in
      let class = named p form (suc (suc (suc kind))) name.0 name.1 in
      (class.0, (name.0, name.1, class.1))

  -- no frame waits, or one is the last to wait
  last_or_none : (frames : List Frame) → (frames ≡ []) ⊎ ((below : List Frame) × (caller : Frame) × (frames ≡ below ++ caller ∷ []))
  last_or_none [] = inl refl
  last_or_none (f ∷ fs) = elim (last_or_none fs) [
    | inl none ↦ inr ([], f, ap (λ rest. f ∷ rest) none)
    | inr some ↦ inr (f ∷ some.0, some.1, ap (λ rest. f ∷ rest) some.2)
  ]

  -- a caller goes on
  received : (code : Code) (value : Option Value) (caller : Point) → IsCall code → (new : State) × ReceivesAt code value caller new
  received (Call None mode class key receiver args targets) value caller is = (_, refl)
  received (Call (Some to) mode class key receiver args targets) (Some value) caller is = (_, refl)
  received (Call (Some to) mode class key receiver args targets) None caller is = (_, refl)
  received code value caller is = absurd is

  -- what may be done leads to a state
  becomes_met : (e : Effect) → FitsEffect p at e → (new : State) × Becomes p at e new
  becomes_met is_ill_typed f = (_, refl)
  becomes_met (raises kind) f = let class = raised_class kind f in (_, (class.0, class.1, refl))
  becomes_met (throws o) f = (_, refl)
  becomes_met (goes index) f = (_, refl)
  becomes_met (gets to value) f = (_, refl)
  becomes_met (makes to class) f = (_, refl)
  becomes_met (nests to o inner class) f = let outer = slice_get-there at.heap o f.2 in (_, (outer.0, outer.1, refl))
  becomes_met (writes o field value) f = let object = slice_get-there at.heap o f.1 in (_, (object.0, object.1, refl))
  becomes_met (sets field value) f = (_, refl)
  becomes_met (calls frame) f = (_, refl)
  becomes_met (returns value) f = elim (last_or_none at.below) [
    | inl none ↦ (_, inl (none, refl))
    | inr some ↦
        let waits = each_last (Waits p) some.0 some.1 (subst (λ fs. EachOf (Waits p) fs) some.2 fits.waits) in
        let new = received waits.1.code value (under some.0 some.1 at) waits.1.is_so in
        (new.0, inr (some.0, some.1, some.2, record { code = waits.1.code; at = waits.1.at; is_so = new.1 }))
  ]
  becomes_met (handles handler o) f = (_, refl)
  becomes_met (leaves o) f = elim (last_or_none at.below) [
    | inl none ↦ (_, inl (none, refl))
    | inr some ↦ (_, inr (some.0, some.1, some.2, refl))
  ]

  pub point_goes : (s : State) → s ≡ state_of at → HasSteps p s
  point_goes s is = record {
    count = length offers_met.0;
    choices = record { at = at; stands = is; offered = offers_met.0; offers = offers_met.1; as_many = refl };
    not_none = offers_met.2;
    each = λ choice below.
        let e = slice_get-there offers_met.0 choice below in
        let new = becomes_met e.0 (offers_fit p at form fits offers_met.0 offers_met.1 choice e.0 e.1) in
        (new.0, record { at = at; stands = is; offered = offers_met.0; offers = offers_met.1; effect = e.0; chosen = e.1; becomes = new.1 });
  }

-- each state of a run that hasn't ended has a step
pub runs_go_on : RunsGoOn
runs_go_on p n s form run is =
    let shape : HasShapeBy running p s = subst (λ ending. HasShapeBy ending p s) is (run_fits p n s form run) in
    point_goes p shape.0 form shape.2 s shape.1

-- each program has a first state
pub runs_begin : RunsBegin
runs_begin p form =
    let string = named p form 1 _ refl in
    let class = named p form 2 _ refl in (
      _,
      record {
        number = form.number;
        root = form.root;
        is_root = form.is_root;
        string = string.0;
        is_string = string.1;
        class = class.0;
        is_class = class.1;
        is_state = refl;
      },
    )
