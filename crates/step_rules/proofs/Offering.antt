-- What is offered fits.
use Rattle.std.proofs.Common.{◌≡◌, ℕ, ◌+◌, ◌<◌, List, [], ◌∷◌, ◌++◌, Option, Some, None, Bool, true, false, length, map, slice_get, refl, sym, ap, subst, arith, inl, inr}
use Rattle.std.proofs.lemmas.List.{length-map}
use Rattle.lists.proofs.Places.{slice_get-below, slice_get-there}
use Rattle.jim_ast.specs.declared.syntax.Mode.{Mode}
use Rattle.jim_ast.specs.declared.syntax.Mode.TheVariants.{Special, Virtual, Interface, Static}
use Rattle.link_rules.specs.Accessed.{linked_class_names}
use Rattle.link_rules.specs.declared.code.Catch.{Catch}
use Rattle.link_rules.specs.declared.code.Code.{Code}
use Rattle.link_rules.specs.declared.code.Code.TheVariants.{This, Param, Caught, Copy, Cast, New, NewArray, NewMulti, Numeric, Length, Load, Store, LoadCell, StoreCell, LoadStatic, StoreStatic, Call, If, Goto, Switch, Return, Throw, Monitor, Skip}
use Rattle.link_rules.specs.Flow.{Next}
use Rattle.link_rules.specs.Linked.{LinkedMethod, LinkedProgram}
use Rattle.link_rules.specs.WellLinked.{FitsArg, FitsCatch, FitsCode, FitsMethod, IsInForm}
use Rattle.link_sites.specs.declared.site.Site.{Site}
use Rattle.link_sites.specs.Sites.{IsNamedClass}
use Rattle.step_rules.specs.declared.parts.Slot.TheVariants as slot
use Rattle.step_rules.specs.declared.parts.Value.{Value}
use Rattle.step_rules.specs.declared.parts.Value.TheVariants.{Null, Number, Object}
use Rattle.step_rules.specs.Effects.{Effect, is_ill_typed, raises, throws, goes, gets, makes, nests, writes, sets, calls, returns, handles, leaves}
use Rattle.step_rules.specs.Offers.{CallsWith, Enters, EntersBelow, EntersBy, IllTyped, MakesArray, Nests, Offers, OffersBy, Only, Row, Unwinds, UnwindsAt, Where, WithObject, WithValue}
use Rattle.step_rules.specs.Shapes.{EachOf, FitsEffect, FitsPoint, FitsSlot, FitsValue, GoesIn, GoesOn, Waits}
use Rattle.step_rules.specs.Slots.{cells, field_of, local_of, operand_of, operands_of}
use Rattle.step_rules.specs.States.{HeapObject, Point, new_frame}
use Rattle.step_rules.proofs.Fitting.{field_fits, new_frame_fits, operand_fits, operands_fit}
use Rattle.step_rules.proofs.Listing.{at_all, each_append, each_cons, each_map, each_none, each_one, each_push, same_place}

-- a named class is one of the classes
pub class_within : (p : LinkedProgram) (name : List ℕ) (class : ℕ) → IsNamedClass p name class → class < length p.classes
class_within p name class named = omega (arith, slice_get-below (linked_class_names p.classes) class name named.holds, length-map p.classes (λ c. c.name))

module _ (p : LinkedProgram) (at : Point) (form : IsInForm p) (fits : FitsPoint p at) where
  abbrev Fits : Effect → Type 0
  Fits = FitsEffect p at

  abbrev AllFit : List Effect → Type 0
  AllFit offered = EachOf (FitsEffect p at) offered

  -- exactly these are offered
  only : (these offered : List Effect) → AllFit these → Only these offered → AllFit offered
  only these offered each e = subst AllFit (sym e) each

  one : (e : Effect) (offered : List Effect) → Fits e → Only (e ∷ []) offered → AllFit offered
  one e offered h = only (e ∷ []) offered (each_one Fits e h)

  ill : (offered : List Effect) → IllTyped offered → AllFit offered
  ill offered = one is_ill_typed offered tt

  with_value : (source : Option Value) (R : Value → List Effect → Type 0) (offered : List Effect) → FitsSlot (length at.heap) source → WithValue source R offered
      → ((v : Value) → FitsValue (length at.heap) v → R v offered → AllFit offered) → AllFit offered
  with_value (Some v) R offered h w rest = rest v h w
  with_value None R offered h w rest = ill offered w

  with_object : (v : Value) (R : ℕ → List Effect → Type 0) (offered : List Effect) → FitsValue (length at.heap) v → WithObject v R offered
      → ((o : ℕ) → o < length at.heap → R o offered → AllFit offered) → AllFit offered
  with_object (Object o) R offered h w rest = rest o h w
  with_object Null R offered h w rest = let below : 0 < 6 = omega arith in one (raises 0) offered below w
  with_object Number R offered h w rest = ill offered w

  -- by the object that a slot holds
  on_object : (source : Option Value) (R : ℕ → List Effect → Type 0) (offered : List Effect) → FitsSlot (length at.heap) source
      → WithValue source (λ v. WithObject v R) offered → ((o : ℕ) → o < length at.heap → R o offered → AllFit offered) → AllFit offered
  on_object source R offered h w rest = with_value source (λ v. WithObject v R) offered h w (λ v k x. with_object v R offered k x rest)

  where_so : (Fact : Type 0) (these offered : List Effect) → AllFit these → Where Fact these offered → AllFit offered
  where_so Fact these offered each w = elim w [ inl a ↦ only these offered each a.1 | inr b ↦ ill offered b.1 ]

  -- the statement of the top frame, in a method of the program
  module _ (m : LinkedMethod) (there : slice_get p.methods at.top.method ≡ Some m) (code : Code) (here : slice_get m.code at.top.index ≡ Some code) where
    in_form : FitsMethod p m
    in_form = at_all (FitsMethod p) p.methods at.top.method m form.methods there

    pub goes_in : (next : ℕ) → next < length m.code → GoesIn p at.top.method next
    goes_in next below = let c = slice_get-there m.code next below in
        record { code = c.0; at = record { method = m; there = there; here = c.1 }; is_so = tt }

    pub follows : (next : ℕ) → Next code at.top.index next → GoesIn p at.top.method next
    follows next h = goes_in next (in_form.stays at.top.index next code here h)

    fits_code : FitsCode p m code
    fits_code = at_all (FitsCode p m) m.code at.top.index code in_form.codes here

    -- a local of the method is one of the frame
    local_within : (x : ℕ) → x < length m.locals → x < length at.top.locals
    local_within x h = let same : fits.top.method ≡ m = same_place p.methods at.top.method fits.top.method m fits.top.there there in
        let counted = ap (λ (k : LinkedMethod). length k.locals) same in omega (arith, fits.top.locals, counted, h)

    -- a local gets what a source holds
    assigned : (to : ℕ) (source : Option Value) (more offered : List Effect) → GoesOn p at → to < length at.top.locals → AllFit more
        → FitsSlot (length at.heap) source → WithValue source (λ v. Only (gets to v ∷ more)) offered → AllFit offered
    assigned to source more offered next local each h w = with_value source (λ v. Only (gets to v ∷ more)) offered h w
        (λ v k. only (gets to v ∷ more) offered (each_cons Fits (gets to v) more (next, local, k) each))

  -- a method is called
  entered : (class key : ℕ) (this : Option Value) (args : List Value) (offered : List Effect) → Waits p at.top → FitsSlot (length at.heap) this
      → EachOf (FitsValue (length at.heap)) args → Enters p class key this args offered → AllFit offered
  entered class key this args offered waits this_fits args_fit w = elim w [
    | inl a ↦ one (calls (new_frame a.0 a.1 this args)) offered
        (waits, new_frame_fits p (length at.heap) a.0 a.1 this args a.2.there a.2.has_statements this_fits args_fit) a.3
    | inr b ↦ ill offered b.1
  ]

  entered_below : (class from key : ℕ) (this : Option Value) (args : List Value) (offered : List Effect) → Waits p at.top → FitsSlot (length at.heap) this
      → EachOf (FitsValue (length at.heap)) args → EntersBelow p class from key this args offered → AllFit offered
  entered_below class from key this args offered waits this_fits args_fit w =
      elim w [ inl a ↦ entered from key this args offered waits this_fits args_fit a.1 | inr b ↦ ill offered b.1 ]

  entered_by : (mode : Mode) (class key : ℕ) (object : HeapObject) (this : Option Value) (args : List Value) (offered : List Effect) → Waits p at.top
      → FitsSlot (length at.heap) this → EachOf (FitsValue (length at.heap)) args → EntersBy p mode class key object this args offered → AllFit offered
  entered_by Static class key object this args offered waits this_fits args_fit w = entered class key this args offered waits this_fits args_fit w
  entered_by Special class key object this args offered waits this_fits args_fit w = entered class key this args offered waits this_fits args_fit w
  entered_by Virtual class key object this args offered waits this_fits args_fit w = entered_below class object.class key this args offered waits this_fits args_fit w
  entered_by Interface class key object this args offered waits this_fits args_fit w =
      entered_below class object.class key this args offered waits this_fits args_fit w

  called : (mode : Mode) (class key : ℕ) (receiver : Option ℕ) (args : Option (List Value)) (offered : List Effect) → Waits p at.top
      → ((vs : List Value) → args ≡ Some vs → EachOf (FitsValue (length at.heap)) vs) → CallsWith p at mode class key receiver args offered → AllFit offered
  called mode class key None (Some args) offered waits args_fit w = entered class key None args offered waits tt (args_fit args refl) w
  called mode class key (Some receiver) (Some args) offered waits args_fit w =
      with_value (local_of at.top receiver) _ offered (fits.top.holds (slot.Local receiver)) w
      (λ v k x. with_object v _ offered k x (λ o below y. entered_by mode class key y.0 (Some v) args offered waits k (args_fit args refl) y.2))
  called mode class key receiver None offered waits args_fit w = ill offered w

  -- what is offered by the statement of a method that is in form
  module _ (m : LinkedMethod) (there : slice_get p.methods at.top.method ≡ Some m) (calm : at.top.raised ≡ false) where
    now : (code : Code) → slice_get m.code at.top.index ≡ Some code → FitsCode p m code
    now code here = fits_code m there code here

    after : (code : Code) → slice_get m.code at.top.index ≡ Some code → Next code at.top.index (at.top.index + 1) → GoesOn p at
    after code here h = follows m there code here (at.top.index + 1) h

    local : (x : ℕ) → x < length m.locals → x < length at.top.locals
    local x h = let same : fits.top.method ≡ m = same_place p.methods at.top.method fits.top.method m fits.top.there there in
        let counted = ap (λ (k : LinkedMethod). length k.locals) same in omega (arith, fits.top.locals, counted, h)

    raising : (k : ℕ) → k < 6 → AllFit (raises k ∷ [])
    raising k h = each_one Fits (raises k) h

    -- an array
    array_made : (to : ℕ) (offered : List Effect) → GoesOn p at → to < length at.top.locals → MakesArray p to offered → AllFit offered
    array_made to offered next below w = only (makes to w.0 ∷ raises 3 ∷ []) offered
        (each_cons Fits (makes to w.0) (raises 3 ∷ []) (next, below, class_within p _ w.0 w.1) (raising 3 (omega arith))) w.2

    -- an array of an inner level, if there is one
    nested_fits : (to o : ℕ) (outer : Site) (more : List Effect) → GoesOn p at → to < length at.top.locals → o < length at.heap → Nests p to o outer more
        → AllFit more
    nested_fits to o outer more next local below w = elim w [
      | inl h ↦ one (nests to o h.0 h.1) more (next, local, below, class_within p _ h.1 h.3) h.4
      | inr h ↦ only [] more (each_none Fits) h.1
    ]

    pub row_fits : (code : Code) (here : slice_get m.code at.top.index ≡ Some code) (offered : List Effect) → Row p at code offered → AllFit offered
    row_fits (This to) here offered w = let f = now (This to) here in
        assigned m there (This to) here to at.top.this [] offered (after (This to) here refl) (local to f.0) (each_none Fits) (fits.top.holds slot.This) w
    row_fits (Param to number) here offered w = let f = now (Param to number) here in
        assigned m there (Param to number) here to (slice_get at.top.params number) [] offered (after (Param to number) here refl) (local to f.0) (each_none Fits)
        (fits.top.holds (slot.Param number)) w
    row_fits (Caught to) here offered w = let f = now (Caught to) here in
        assigned m there (Caught to) here to at.top.caught [] offered (after (Caught to) here refl) (local to f) (each_none Fits) (fits.top.holds slot.Caught) w
    row_fits (Copy to a) here offered w = let f = now (Copy to a) here in
        assigned m there (Copy to a) here to (operand_of p at.top a) [] offered (after (Copy to a) here refl) (local to f.0) (each_none Fits)
        (operand_fits p at fits m a f.1) w
    row_fits (Cast to a) here offered w = let f = now (Cast to a) here in
        assigned m there (Cast to a) here to (operand_of p at.top a) (raises 4 ∷ []) offered (after (Cast to a) here refl) (local to f.0)
        (raising 4 (omega arith)) (operand_fits p at fits m a f.1) w
    row_fits (New to class) here offered w = let f = now (New to class) here in
        one (makes to class) offered (after (New to class) here refl, local to f.0, f.1) w
    row_fits (NewArray to) here offered w = array_made to offered (after (NewArray to) here refl) (local to (now (NewArray to) here)) w
    row_fits (NewMulti to levels) here offered w = array_made to offered (after (NewMulti to levels) here refl) (local to (now (NewMulti to levels) here).0) w
    row_fits (Numeric to true) here offered w = let f = now (Numeric to true) here in
        only (gets to Number ∷ raises 5 ∷ []) offered
        (each_cons Fits (gets to Number) (raises 5 ∷ []) (after (Numeric to true) here refl, local to f, tt) (raising 5 (omega arith))) w
    row_fits (Numeric to false) here offered w = let f = now (Numeric to false) here in
        one (gets to Number) offered (after (Numeric to false) here refl, local to f, tt) w
    row_fits (Length to a) here offered w = let f = now (Length to a) here in
        on_object (operand_of p at.top a) _ offered (operand_fits p at fits m a f.1) w
        (λ o below x. one (gets to Number) offered (after (Length to a) here refl, local to f.0, tt) x)
    row_fits (Load to base field) here offered w = let f = now (Load to base field) here in
        on_object (local_of at.top base) _ offered (fits.top.holds (slot.Local base)) w
        (λ o below x. where_so _ (gets to (field_of x.0 field) ∷ []) offered
        (each_one Fits (gets to (field_of x.0 field)) (after (Load to base field) here refl, local to f.0, field_fits p (length at.heap) x.0 field (fits.objects o x.0 x.1))) x.2)
    row_fits (Store base field a) here offered w = let f = now (Store base field a) here in
        with_value (operand_of p at.top a) _ offered (operand_fits p at fits m a f.2) w (λ v k y.
        on_object (local_of at.top base) _ offered (fits.top.holds (slot.Local base)) y
        (λ o below x. where_so _ (writes o field v ∷ []) offered (each_one Fits (writes o field v) (after (Store base field a) here refl, below, k)) x.2))
    row_fits (LoadCell to base) here offered w = let f = now (LoadCell to base) here in
        on_object (local_of at.top base) _ offered (fits.top.holds (slot.Local base)) w
        (λ o below x. elim x.2 [
          | inl h ↦ let found = h.1 in
              only (gets to Null ∷ map (λ cell. gets to cell) (cells x.0) ++ raises 1 ∷ found.0) offered
              (each_append Fits (gets to Null ∷ map (λ cell. gets to cell) (cells x.0)) (raises 1 ∷ found.0)
              (each_cons Fits (gets to Null) (map (λ cell. gets to cell) (cells x.0)) (after (LoadCell to base) here refl, local to f.0, tt)
              (each_map Fits (λ cell. gets to cell) (cells x.0)
              (λ i v e. (after (LoadCell to base) here refl, local to f.0, (fits.objects o x.0 x.1).values 0 i v e))))
              (each_cons Fits (raises 1) found.0 (omega arith)
              (nested_fits to o x.0.site found.0 (after (LoadCell to base) here refl) (local to f.0) below found.1))) found.2
          | inr h ↦ ill offered h.1
        ])
    row_fits (StoreCell base a) here offered w = let f = now (StoreCell base a) here in
        with_value (operand_of p at.top a) _ offered (operand_fits p at fits m a f.1) w (λ v k y.
        on_object (local_of at.top base) _ offered (fits.top.holds (slot.Local base)) y
        (λ o below x. where_so _ (writes o 0 v ∷ raises 1 ∷ raises 2 ∷ []) offered
        (each_cons Fits (writes o 0 v) (raises 1 ∷ raises 2 ∷ []) (after (StoreCell base a) here refl, below, k)
        (each_cons Fits (raises 1) (raises 2 ∷ []) (omega arith) (raising 2 (omega arith)))) x.2))
    row_fits (LoadStatic to field) here offered w = let f = now (LoadStatic to field) here in
        one (gets to w.0) offered (after (LoadStatic to field) here refl, local to f.0, fits.statics field w.0 w.1) w.2
    row_fits (StoreStatic field a) here offered w = let f = now (StoreStatic field a) here in
        with_value (operand_of p at.top a) _ offered (operand_fits p at fits m a f.1) w
        (λ v k x. one (sets field v) offered (after (StoreStatic field a) here refl, omega (arith, fits.as_many, f.0), k) x)
    row_fits (Call to mode class key receiver args targets) here offered w = let f = now (Call to mode class key receiver args targets) here in
        called mode class key receiver (operands_of p at.top args) offered
        (calm, record { code = Call to mode class key receiver args targets; at = record { method = m; there = there; here = here }; is_so = tt })
        (λ vs e. operands_fit p at fits m args vs (λ i a k. at_all (FitsArg p m) args i a f.4 k) e) w
    row_fits (If jump) here offered w =
        only (goes (at.top.index + 1) ∷ goes jump ∷ []) offered
        (each_cons Fits (goes (at.top.index + 1)) (goes jump ∷ []) (after (If jump) here (inl refl))
        (each_one Fits (goes jump) (follows m there (If jump) here jump (inr refl)))) w
    row_fits (Goto jump) here offered w = one (goes jump) offered (follows m there (Goto jump) here jump refl) w
    row_fits (Switch jumps) here offered w =
        only (map (λ jump. goes jump) jumps) offered
        (each_map Fits (λ jump. goes jump) jumps (λ i jump e. follows m there (Switch jumps) here jump (i, e))) w
    row_fits (Return None) here offered w = one (returns None) offered tt w
    row_fits (Return (Some a)) here offered w = let f = now (Return (Some a)) here in
        with_value (operand_of p at.top a) _ offered (operand_fits p at fits m a f) w (λ v k x. one (returns (Some v)) offered k x)
    row_fits (Throw a) here offered w = let f = now (Throw a) here in
        on_object (operand_of p at.top a) _ offered (operand_fits p at fits m a f) w (λ o below x. one (throws o) offered below x)
    row_fits (Monitor a) here offered w = let f = now (Monitor a) here in
        on_object (operand_of p at.top a) _ offered (operand_fits p at fits m a f) w
        (λ o below x. one (goes (at.top.index + 1)) offered (after (Monitor a) here refl) x)
    row_fits Skip here offered w = one (goes (at.top.index + 1)) offered (after Skip here refl) w

  -- an exception in flight
  unwound : (m : LinkedMethod) (t o class : ℕ) (offered : List Effect) → slice_get p.methods at.top.method ≡ Some m → o < length at.heap
      → Unwinds p m t o class offered → AllFit offered
  unwound m t o class offered there below w = elim w [
    | inl a ↦ one (handles a.0 o) offered (
      handled a.0 a.1.catch a.1.is_handler
          (at_all (FitsCatch p m) m.catches a.1.number a.1.catch (at_all (FitsMethod p) p.methods at.top.method m form.methods there).catches a.1.there).1,
      below,
    ) a.2
    | inr b ↦ one (leaves o) offered below b.1
  ] where
    handled : (handler : ℕ) (catch : Catch) → handler ≡ catch.handler → catch.handler < length m.code → GoesIn p at.top.method handler
    handled handler catch e h = let c = slice_get-there m.code handler (omega (arith, e, h)) in
        record { code = c.0; at = record { method = m; there = there; here = c.1 }; is_so = tt }

  unwound_at : (thrown : Option Value) (offered : List Effect) → FitsSlot (length at.heap) thrown → UnwindsAt p at thrown offered → AllFit offered
  unwound_at (Some (Object o)) offered h w = unwound w.0 at.top.index o w.2.0.class offered w.1 h w.2.2
  unwound_at (Some Null) offered h w = absurd w
  unwound_at (Some Number) offered h w = absurd w
  unwound_at None offered h w = absurd w

  -- what a state offers that has the shape
  pub offers_fit : (offered : List Effect) → Offers p at offered → EachOf (FitsEffect p at) offered
  offers_fit offered w = by at.top.raised refl w where
    by : (raised : Bool) → at.top.raised ≡ raised → OffersBy raised p at offered → AllFit offered
    by false calm h = row_fits h.at.method h.at.there calm h.code h.at.here offered h.is_so
    by true raised h = unwound_at at.top.thrown offered (fits.top.holds slot.Thrown) h
