-- The arrays that a step makes within another are of the site that this one's arrays hold.
use Rattle.std.proofs.Common.{◌≡◌, ℕ, ◌+◌, ◌++◌, Bool, true, false, Option, Some, None, List, [], ◌∷◌, map, slice_get, inl, inr}
use Rattle.lists.specs.Lists.{Has}
use Rattle.jim_ast.specs.declared.syntax.Mode.{Mode}
use Rattle.jim_ast.specs.declared.syntax.Mode.TheVariants.{Special, Virtual, Interface, Static}
use Rattle.link_rules.specs.declared.code.Code.{Code}
use Rattle.link_rules.specs.declared.code.Code.TheVariants as code
use Rattle.link_rules.specs.Linked.{LinkedProgram}
use Rattle.link_sites.specs.Sites.{HasDeclared, IsArraySite, IsInnerSite}
use Rattle.run_covers.proofs.Offered.{AllOf, all_mapped, ill_typed, mapped, one_of, only, where_so, with_object, with_value}
use Rattle.step_rules.specs.declared.parts.Value.{Value}
use Rattle.step_rules.specs.declared.parts.Value.TheVariants.{Null, Number, Object}
use Rattle.step_rules.specs.Effects.{Effect, is_ill_typed, raises, throws, goes, gets, makes, nests, writes, sets, returns, handles, leaves}
use Rattle.step_rules.specs.Offers.{AtObject, CallsOn, CallsWith, Enters, EntersBelow, EntersBy, FindsElement, GivesBack, Nests, Offers, OffersBy, Only, Row, UnwindsAt, Where, WithObject, WithValue, returned}
use Rattle.step_rules.specs.Slots.{cells, field_of, local_of, operand_of, operands_of}
use Rattle.step_rules.specs.States.{HeapObject, Point}

-- an array that is made within another one
abbrev pub NestsWithin : LinkedProgram → Point → Effect → Type 0
NestsWithin p at (nests to o inner class) = (outer : HeapObject) × (slice_get at.heap o ≡ Some outer) × IsInnerSite p outer.site inner
NestsWithin p at _ = Unit {0}

module _ (p : LinkedProgram) (at : Point) where
  abbrev Within : List Effect → Type 0
  Within offered = AllOf (NestsWithin p at) offered

  ill : NestsWithin p at is_ill_typed
  ill = tt

  null : NestsWithin p at (raises 0)
  null = tt

  -- by an operand, these
  by_value : (source : Option Value) (these : Value → List Effect) (offered : List Effect) → WithValue source (λ v. Only (these v)) offered
      → ((v : Value) → Within (these v)) → Within offered
  by_value source these offered h all = with_value (NestsWithin p at) ill null source (λ v. Only (these v)) offered
      (λ v r. only (NestsWithin p at) (these v) offered r (all v)) h

  -- by an object, these
  by_object : (source : Option Value) (these : ℕ → List Effect) (offered : List Effect)
      → WithValue source (λ v. WithObject v (λ o. Only (these o))) offered → ((o : ℕ) → Within (these o)) → Within offered
  by_object source these offered h all = with_value (NestsWithin p at) ill null source (λ v. WithObject v (λ o. Only (these o))) offered
      (λ v r. with_object (NestsWithin p at) ill null v (λ o. Only (these o)) offered (λ o s. only (NestsWithin p at) (these o) offered s (all o)) r) h

  -- by an object of the heap and by whether something is so of it, these
  by_access : (source : Option Value) (Fact : HeapObject → Type 0) (these : ℕ → HeapObject → List Effect) (offered : List Effect)
      → WithValue source (λ v. WithObject v (λ o. AtObject at.heap o (λ object. Where (Fact object) (these o object)))) offered
      → ((o : ℕ) (object : HeapObject) → Within (these o object)) → Within offered
  by_access source Fact these offered h all =
      with_value (NestsWithin p at) ill null source (λ v. WithObject v (λ o. AtObject at.heap o (λ object. Where (Fact object) (these o object)))) offered
      (λ v r. with_object (NestsWithin p at) ill null v (λ o. AtObject at.heap o (λ object. Where (Fact object) (these o object))) offered
      (λ o s. where_so (NestsWithin p at) ill null (Fact s.0) (these o s.0) offered (all o s.0) s.2) r) h

  -- a store, which reads what is stored first
  by_store : (source base : Option Value) (Fact : HeapObject → Type 0) (these : Value → ℕ → HeapObject → List Effect) (offered : List Effect)
      → WithValue source (λ w. WithValue base (λ v. WithObject v (λ o. AtObject at.heap o (λ object. Where (Fact object) (these w o object))))) offered
      → ((w : Value) (o : ℕ) (object : HeapObject) → Within (these w o object)) → Within offered
  by_store source base Fact these offered h all = with_value (NestsWithin p at) ill null source
      (λ w. WithValue base (λ v. WithObject v (λ o. AtObject at.heap o (λ object. Where (Fact object) (these w o object))))) offered
      (λ w r. by_access base Fact (these w) offered r (all w)) h

  -- one more array within an array of arrays, or none
  nests_one : (to o : ℕ) (object : HeapObject) (more : List Effect) → slice_get at.heap o ≡ Some object → Nests p to o object.site more → Within more
  nests_one to o object more there h = elim h [
    | inl some ↦ only (NestsWithin p at) (nests to o some.0 some.1 ∷ []) more some.4 ((object, there, some.2), tt)
    | inr none ↦ only (NestsWithin p at) [] more none.1 tt
  ]

  -- an element of an array
  element : (to o : ℕ) (object : HeapObject) (offered : List Effect) → slice_get at.heap o ≡ Some object → FindsElement p to o object offered
      → Within offered
  element to o object offered there h = elim h [
    | inl found ↦
        let cell = found.1 in
        only (NestsWithin p at) (gets to Null ∷ map (λ cell. gets to cell) (cells object) ++ raises 1 ∷ cell.0) offered cell.2 (
          tt,
          mapped (NestsWithin p at) (λ cell. gets to cell) (cells object) (raises 1 ∷ cell.0) (λ cell. tt)
              (tt, nests_one to o object cell.0 there cell.1),
        )
    | inr other ↦ ill_typed (NestsWithin p at) ill null offered other.1
  ]

  -- a method that is entered
  enters : (from key : ℕ) (this : Option Value) (values : List Value) (offered : List Effect) → Enters p from key this values offered → Within offered
  enters from key this values offered h = elim h [
    | inl f ↦ only (NestsWithin p at) _ offered f.3 (tt, tt)
    | inr none ↦ ill_typed (NestsWithin p at) ill null offered none.1
  ]

  enters_below : (class from key : ℕ) (this : Option Value) (values : List Value) (offered : List Effect)
      → EntersBelow p class from key this values offered → Within offered
  enters_below class from key this values offered h = elim h [
    | inl f ↦ enters from key this values offered f.1
    | inr other ↦ ill_typed (NestsWithin p at) ill null offered other.1
  ]

  enters_by : (mode : Mode) (class key : ℕ) (object : HeapObject) (this : Option Value) (values : List Value) (offered : List Effect)
      → EntersBy p mode class key object this values offered → Within offered
  enters_by Static class key object this values offered h = enters class key this values offered h
  enters_by Special class key object this values offered h = enters class key this values offered h
  enters_by Virtual class key object this values offered h = enters_below class object.class key this values offered h
  enters_by Interface class key object this values offered h = enters_below class object.class key this values offered h

  -- the row of calls
  calls_with : (mode : Mode) (class key : ℕ) (r : Option ℕ) (o : Option (List Value)) (offered : List Effect)
      → CallsWith p at mode class key r o offered → Within offered
  calls_with mode class key None (Some values) offered h = enters class key None values offered h
  calls_with mode class key (Some x) (Some values) offered h =
      with_value (NestsWithin p at) ill null (local_of at.top x) (λ value. CallsOn p at mode class key value values) offered
      (λ value on. with_object (NestsWithin p at) ill null value _ offered
      (λ o there. enters_by mode class key there.0 (Some value) values offered there.2) on) h
  calls_with mode class key None None offered h = ill_typed (NestsWithin p at) ill null offered h
  calls_with mode class key (Some x) None offered h = ill_typed (NestsWithin p at) ill null offered h

  -- a return
  gives_back : (o : Option (Option Value)) (offered : List Effect) → GivesBack o offered → Within offered
  gives_back None offered h = only (NestsWithin p at) (returns None ∷ []) offered h (tt, tt)
  gives_back (Some source) offered h = by_value source (λ value. returns (Some value) ∷ []) offered h (λ value. (tt, tt))

  -- the rows of the table
  rows : (c : Code) (offered : List Effect) → Row p at c offered → Within offered
  rows (code.This to) offered h = by_value at.top.this (λ v. gets to v ∷ []) offered h (λ v. (tt, tt))
  rows (code.Param to number) offered h = by_value (slice_get at.top.params number) (λ v. gets to v ∷ []) offered h (λ v. (tt, tt))
  rows (code.Caught to) offered h = by_value at.top.caught (λ v. gets to v ∷ []) offered h (λ v. (tt, tt))
  rows (code.Copy to a) offered h = by_value (operand_of p at.top a) (λ v. gets to v ∷ []) offered h (λ v. (tt, tt))
  rows (code.Cast to a) offered h = by_value (operand_of p at.top a) (λ v. gets to v ∷ raises 4 ∷ []) offered h (λ v. (tt, (tt, tt)))
  rows (code.New to class) offered h = only (NestsWithin p at) (makes to class ∷ []) offered h (tt, tt)
  rows (code.NewArray to) offered h = only (NestsWithin p at) (makes to h.0 ∷ raises 3 ∷ []) offered h.2 (tt, (tt, tt))
  rows (code.NewMulti to levels) offered h = only (NestsWithin p at) (makes to h.0 ∷ raises 3 ∷ []) offered h.2 (tt, (tt, tt))
  rows (code.Numeric to true) offered h = only (NestsWithin p at) (gets to Number ∷ raises 5 ∷ []) offered h (tt, (tt, tt))
  rows (code.Numeric to false) offered h = only (NestsWithin p at) (gets to Number ∷ []) offered h (tt, tt)
  rows (code.Length to a) offered h = by_object (operand_of p at.top a) (λ o. gets to Number ∷ []) offered h (λ o. (tt, tt))
  rows (code.Load to base field) offered h =
      by_access (local_of at.top base) (λ object. HasDeclared p object.class field) (λ o object. gets to (field_of object field) ∷ []) offered h (λ o object. (tt, tt))
  rows (code.Store base field a) offered h =
      by_store (operand_of p at.top a) (local_of at.top base) (λ object. HasDeclared p object.class field) (λ w o object. writes o field w ∷ []) offered h (λ w o object. (tt, tt))
  rows (code.LoadCell to base) offered h =
      with_value (NestsWithin p at) ill null (local_of at.top base) (λ v. WithObject v (λ o. AtObject at.heap o (λ object. FindsElement p to o object))) offered
      (λ v r. with_object (NestsWithin p at) ill null v (λ o. AtObject at.heap o (λ object. FindsElement p to o object)) offered
      (λ o s. element to o s.0 offered s.1 s.2) r) h
  rows (code.StoreCell base a) offered h =
      by_store (operand_of p at.top a) (local_of at.top base) (λ object. IsArraySite p object.site) (λ w o object. writes o 0 w ∷ raises 1 ∷ raises 2 ∷ []) offered h
      (λ w o object. (tt, (tt, (tt, tt))))
  rows (code.LoadStatic to field) offered h = only (NestsWithin p at) (gets to h.0 ∷ []) offered h.2 (tt, tt)
  rows (code.StoreStatic field a) offered h = by_value (operand_of p at.top a) (λ v. sets field v ∷ []) offered h (λ v. (tt, tt))
  rows (code.Call to mode class key receiver args targets) offered h = calls_with mode class key receiver (operands_of p at.top args) offered h
  rows (code.If jump) offered h = only (NestsWithin p at) (goes (at.top.index + 1) ∷ goes jump ∷ []) offered h (tt, (tt, tt))
  rows (code.Goto jump) offered h = only (NestsWithin p at) (goes jump ∷ []) offered h (tt, tt)
  rows (code.Switch jumps) offered h =
      only (NestsWithin p at) (map (λ jump. goes jump) jumps) offered h (all_mapped (NestsWithin p at) (λ jump. goes jump) jumps (λ jump. tt))
  rows (code.Return a) offered h = gives_back (returned p at.top a) offered h
  rows (code.Throw a) offered h = by_object (operand_of p at.top a) (λ o. throws o ∷ []) offered h (λ o. (tt, tt))
  rows (code.Monitor a) offered h = by_object (operand_of p at.top a) (λ o. goes (at.top.index + 1) ∷ []) offered h (λ o. (tt, tt))
  rows code.Skip offered h = only (NestsWithin p at) (goes (at.top.index + 1) ∷ []) offered h (tt, tt)

  -- what is in flight is caught or leaves
  unwinds : (thrown : Option Value) (offered : List Effect) → UnwindsAt p at thrown offered → Within offered
  unwinds (Some (Object o)) offered h = elim h.2.2 [
    | inl caught ↦ only (NestsWithin p at) (handles caught.0 o ∷ []) offered caught.2 (tt, tt)
    | inr none ↦ only (NestsWithin p at) (leaves o ∷ []) offered none.1 (tt, tt)
  ]
  unwinds (Some Null) offered h = elim h [ ]
  unwinds (Some Number) offered h = elim h [ ]
  unwinds None offered h = elim h [ ]

  by_flight : (raised : Bool) (offered : List Effect) → OffersBy raised p at offered → Within offered
  by_flight false offered h = rows h.code offered h.is_so
  by_flight true offered h = unwinds at.top.thrown offered h

  -- so it is of each effect
  pub nests_within : (offered : List Effect) (e : Effect) → Offers p at offered → Has offered e → NestsWithin p at e
  nests_within offered e h has = one_of (NestsWithin p at) offered e (by_flight at.top.raised offered h) has
