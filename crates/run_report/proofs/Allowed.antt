-- What a statement may raise and make, by the rows of the machine's table.
use Rattle.std.proofs.Common.{◌≡◌, ℕ, ◌+◌, ◌++◌, true, false, Option, Some, None, List, [], ◌∷◌, map, slice_get, refl, inl, inr, arith}
use Rattle.jim_ast.specs.declared.syntax.Mode.{Mode}
use Rattle.jim_ast.specs.declared.syntax.Mode.TheVariants.{Special, Virtual, Interface, Static}
use Rattle.link_rules.specs.declared.code.Code.{Code}
use Rattle.link_rules.specs.declared.code.Code.TheVariants as code
use Rattle.link_rules.specs.Flow.{MayRaise}
use Rattle.link_rules.specs.Linked.{LinkedProgram}
use Rattle.link_sites.specs.declared.site.Site.{Site}
use Rattle.link_sites.specs.declared.site.Site.TheVariants as site
use Rattle.link_sites.specs.Sites.{HasDeclared, IsArraySite, IsInnerSite, IsSite, Makes}
use Rattle.step_rules.specs.declared.parts.Value.{Value}
use Rattle.step_rules.specs.declared.parts.Value.TheVariants.{Null, Number, Object}
use Rattle.step_rules.specs.Effects.{Effect, is_ill_typed, raises, throws, goes, gets, makes, nests, writes, sets, calls, returns}
use Rattle.step_rules.specs.Offers.{AtObject, CallsOn, CallsWith, Enters, EntersBelow, EntersBy, FindsElement, GivesBack, IllTyped, Nests, Only, Row, Where, WithObject, WithValue, returned}
use Rattle.step_rules.specs.Slots.{cells, field_of, local_of, operand_of, operands_of}
use Rattle.step_rules.specs.States.{HeapObject, Point, new_frame}
use Rattle.run_covers.proofs.Offered.{AllOf, all_mapped, mapped, only}

-- what the statement may do: it raises what it may raise, makes an object only where it is one that makes, and an array within an array only where
-- that one may hold it
abbrev pub IsAllowed : LinkedProgram → Code → Effect → Type 0
IsAllowed p c (raises kind) = MayRaise c kind
IsAllowed p c (makes to class) = Makes c
IsAllowed p c (nests to o inner class) = IsSite p inner
IsAllowed p c _ = Unit {0}

-- what arrays of a site hold is a site
inner_site : (p : LinkedProgram) (outer inner : Site) → IsInnerSite p outer inner → IsSite p inner
inner_site p (site.New place) inner h = rw h.1 h.0
inner_site p (site.Nested place level) inner h = rw h.1 h.0
inner_site p (site.Raised place kind) inner h = absurd h
inner_site p (site.Text number) inner h = absurd h
inner_site p (site.Class number) inner h = absurd h

module _ (p : LinkedProgram) (at : Point) (c : Code) where
  abbrev Allowed : List Effect → Type 0
  Allowed offered = AllOf (IsAllowed p c) offered

  these_only : (these offered : List Effect) → Only these offered → Allowed these → Allowed offered
  these_only these offered h all = only (IsAllowed p c) these offered h all

  ill : (offered : List Effect) → IllTyped offered → Allowed offered
  ill offered h = these_only (is_ill_typed ∷ []) offered h (tt, tt)

  -- by an operand
  by_value : (source : Option Value) (Rest : Value → List Effect → Type 0) (offered : List Effect) → WithValue source Rest offered
      → ((v : Value) → Rest v offered → Allowed offered) → Allowed offered
  by_value (Some v) Rest offered h f = f v h
  by_value None Rest offered h f = ill offered h

  -- by a value, of a statement that may raise a `NullPointerException`
  by_object : MayRaise c 0 → (v : Value) (Rest : ℕ → List Effect → Type 0) (offered : List Effect) → WithObject v Rest offered
      → ((o : ℕ) → Rest o offered → Allowed offered) → Allowed offered
  by_object null (Object o) Rest offered h f = f o h
  by_object null Null Rest offered h f = these_only (raises 0 ∷ []) offered h (null, tt)
  by_object null Number Rest offered h f = ill offered h

  -- by whether something is so
  by_fact : (Fact : Type 0) (these offered : List Effect) → Where Fact these offered → Allowed these → Allowed offered
  by_fact Fact these offered h all = elim h [ inl so ↦ these_only these offered so.1 all | inr other ↦ ill offered other.1 ]

  -- by an operand, these
  values : (source : Option Value) (these : Value → List Effect) (offered : List Effect) → WithValue source (λ v. Only (these v)) offered
      → ((v : Value) → Allowed (these v)) → Allowed offered
  values source these offered h all = by_value source (λ v. Only (these v)) offered h (λ v r. these_only (these v) offered r (all v))

  -- by an object, these
  objects : MayRaise c 0 → (source : Option Value) (these : ℕ → List Effect) (offered : List Effect)
      → WithValue source (λ v. WithObject v (λ o. Only (these o))) offered → ((o : ℕ) → Allowed (these o)) → Allowed offered
  objects null source these offered h all = by_value source (λ v. WithObject v (λ o. Only (these o))) offered h
      (λ v r. by_object null v (λ o. Only (these o)) offered r (λ o s. these_only (these o) offered s (all o)))

  -- by an object of the heap and by whether something is so of it, these
  accesses : MayRaise c 0 → (source : Option Value) (Fact : HeapObject → Type 0) (these : ℕ → HeapObject → List Effect) (offered : List Effect)
      → WithValue source (λ v. WithObject v (λ o. AtObject at.heap o (λ object. Where (Fact object) (these o object)))) offered
      → ((o : ℕ) (object : HeapObject) → Allowed (these o object)) → Allowed offered
  accesses null source Fact these offered h all =
      by_value source (λ v. WithObject v (λ o. AtObject at.heap o (λ object. Where (Fact object) (these o object)))) offered h
      (λ v r. by_object null v (λ o. AtObject at.heap o (λ object. Where (Fact object) (these o object))) offered r
      (λ o s. by_fact (Fact s.0) (these o s.0) offered s.2 (all o s.0)))

  -- a store, which reads what is stored first
  stores : MayRaise c 0 → (source base : Option Value) (Fact : HeapObject → Type 0) (these : Value → ℕ → HeapObject → List Effect) (offered : List Effect)
      → WithValue source (λ w. WithValue base (λ v. WithObject v (λ o. AtObject at.heap o (λ object. Where (Fact object) (these w o object))))) offered
      → ((w : Value) (o : ℕ) (object : HeapObject) → Allowed (these w o object)) → Allowed offered
  stores null source base Fact these offered h all = by_value source
      (λ w. WithValue base (λ v. WithObject v (λ o. AtObject at.heap o (λ object. Where (Fact object) (these w o object))))) offered h
      (λ w r. accesses null base Fact (these w) offered r (all w))

  -- a return
  gives_back : (o : Option (Option Value)) (offered : List Effect) → GivesBack o offered → Allowed offered
  gives_back None offered h = these_only (returns None ∷ []) offered h (tt, tt)
  gives_back (Some source) offered h = values source (λ v. returns (Some v) ∷ []) offered h (λ v. (tt, tt))

  module _ (class key : ℕ) where
    -- a call of what is looked up from a class
    enters : (from : ℕ) (this : Option Value) (args : List Value) (offered : List Effect) → Enters p from key this args offered → Allowed offered
    enters from this args offered h = elim h [
      | inl f ↦ these_only (calls (new_frame f.0 f.1 this args) ∷ []) offered f.3 (tt, tt)
      | inr none ↦ ill offered none.1
    ]

    enters_below : (from : ℕ) (this : Option Value) (args : List Value) (offered : List Effect) → EntersBelow p class from key this args offered
        → Allowed offered
    enters_below from this args offered h = elim h [ inl f ↦ enters from this args offered f.1 | inr other ↦ ill offered other.1 ]

    enters_by : (mode : Mode) (object : HeapObject) (this : Option Value) (args : List Value) (offered : List Effect)
        → EntersBy p mode class key object this args offered → Allowed offered
    enters_by Static object this args offered h = enters class this args offered h
    enters_by Special object this args offered h = enters class this args offered h
    enters_by Virtual object this args offered h = enters_below object.class this args offered h
    enters_by Interface object this args offered h = enters_below object.class this args offered h

    -- the row of calls: one on a receiver may raise a `NullPointerException`
    calls_with : (mode : Mode) (r : Option ℕ) → ((x : ℕ) → r ≡ Some x → MayRaise c 0) → (o : Option (List Value)) (offered : List Effect)
        → CallsWith p at mode class key r o offered → Allowed offered
    calls_with mode None null (Some args) offered h = enters class None args offered h
    calls_with mode (Some x) null (Some args) offered h =
        by_value (local_of at.top x) (λ v. CallsOn p at mode class key v args) offered h
        (λ v on. by_object (null x refl) v (λ o. AtObject at.heap o (λ object. EntersBy p mode class key object (Some v) args)) offered on
        (λ o there. enters_by mode there.0 (Some v) args offered there.2))
    calls_with mode None null None offered h = ill offered h
    calls_with mode (Some x) null None offered h = ill offered h

-- an element of an array
element : (p : LinkedProgram) (at : Point) (to base o : ℕ) (object : HeapObject) (offered : List Effect) → FindsElement p to o object offered
    → AllOf (IsAllowed p (code.LoadCell to base)) offered
element p at to base o object offered h = elim h [
  | inl found ↦
      let cell = found.1 in
      these_only p at (code.LoadCell to base) (gets to Null ∷ map (λ cell. gets to cell) (cells object) ++ raises 1 ∷ cell.0) offered cell.2
      (tt, mapped (IsAllowed p (code.LoadCell to base)) (λ cell. gets to cell) (cells object) (raises 1 ∷ cell.0) (λ cell. tt) (omega arith, more cell.0 cell.1))
  | inr other ↦ ill p at (code.LoadCell to base) offered other.1
]
  where
    more : (effects : List Effect) → Nests p to o object.site effects → AllOf (IsAllowed p (code.LoadCell to base)) effects
    more effects h = elim h [
      | inl inner ↦ these_only p at (code.LoadCell to base) (nests to o inner.0 inner.1 ∷ []) effects inner.4 (inner_site p object.site inner.0 inner.2, tt)
      | inr none ↦ these_only p at (code.LoadCell to base) [] effects none.1 tt
    ]

-- the rows of the table
pub row_allowed : (p : LinkedProgram) (at : Point) (c : Code) (offered : List Effect) → Row p at c offered → AllOf (IsAllowed p c) offered
row_allowed p at (code.This to) offered h = values p at (code.This to) at.top.this (λ v. gets to v ∷ []) offered h (λ v. (tt, tt))
row_allowed p at (code.Param to n) offered h = values p at (code.Param to n) (slice_get at.top.params n) (λ v. gets to v ∷ []) offered h (λ v. (tt, tt))
row_allowed p at (code.Caught to) offered h = values p at (code.Caught to) at.top.caught (λ v. gets to v ∷ []) offered h (λ v. (tt, tt))
row_allowed p at (code.Copy to a) offered h = values p at (code.Copy to a) (operand_of p at.top a) (λ v. gets to v ∷ []) offered h (λ v. (tt, tt))
row_allowed p at (code.Cast to a) offered h =
    values p at (code.Cast to a) (operand_of p at.top a) (λ v. gets to v ∷ raises 4 ∷ []) offered h (λ v. (tt, (refl, tt)))
row_allowed p at (code.New to class) offered h = these_only p at (code.New to class) (makes to class ∷ []) offered h (tt, tt)
row_allowed p at (code.NewArray to) offered h = these_only p at (code.NewArray to) (makes to h.0 ∷ raises 3 ∷ []) offered h.2 (tt, (refl, tt))
row_allowed p at (code.NewMulti to levels) offered h = these_only p at (code.NewMulti to levels) (makes to h.0 ∷ raises 3 ∷ []) offered h.2 (tt, (refl, tt))
row_allowed p at (code.Numeric to true) offered h = these_only p at (code.Numeric to true) (gets to Number ∷ raises 5 ∷ []) offered h (tt, ((refl, refl), tt))
row_allowed p at (code.Numeric to false) offered h = these_only p at (code.Numeric to false) (gets to Number ∷ []) offered h (tt, tt)
row_allowed p at (code.Length to a) offered h = objects p at (code.Length to a) refl (operand_of p at.top a) (λ o. gets to Number ∷ []) offered h (λ o. (tt, tt))
row_allowed p at (code.Load to base field) offered h =
    accesses p at (code.Load to base field) refl (local_of at.top base) (λ object. HasDeclared p object.class field)
    (λ o object. gets to (field_of object field) ∷ []) offered h (λ o object. (tt, tt))
row_allowed p at (code.Store base field a) offered h =
    stores p at (code.Store base field a) refl (operand_of p at.top a) (local_of at.top base) (λ object. HasDeclared p object.class field)
    (λ w o object. writes o field w ∷ []) offered h (λ w o object. (tt, tt))
row_allowed p at (code.LoadCell to base) offered h =
    by_value p at (code.LoadCell to base) (local_of at.top base) (λ v. WithObject v (λ o. AtObject at.heap o (λ object. FindsElement p to o object))) offered h
    (λ v r. by_object p at (code.LoadCell to base) (omega arith) v (λ o. AtObject at.heap o (λ object. FindsElement p to o object)) offered r
    (λ o s. element p at to base o s.0 offered s.2))
row_allowed p at (code.StoreCell base a) offered h =
    stores p at (code.StoreCell base a) (omega arith) (operand_of p at.top a) (local_of at.top base) (λ object. IsArraySite p object.site)
    (λ w o object. writes o 0 w ∷ raises 1 ∷ raises 2 ∷ []) offered h (λ w o object. (tt, (omega arith, (omega arith, tt))))
row_allowed p at (code.LoadStatic to field) offered h = these_only p at (code.LoadStatic to field) (gets to h.0 ∷ []) offered h.2 (tt, tt)
row_allowed p at (code.StoreStatic field a) offered h =
    values p at (code.StoreStatic field a) (operand_of p at.top a) (λ v. sets field v ∷ []) offered h (λ v. (tt, tt))
row_allowed p at (code.Call to mode class key receiver args targets) offered h =
    calls_with p at (code.Call to mode class key receiver args targets) class key mode receiver (λ x e. rw e refl) (operands_of p at.top args) offered h
row_allowed p at (code.If jump) offered h = these_only p at (code.If jump) (goes (at.top.index + 1) ∷ goes jump ∷ []) offered h (tt, (tt, tt))
row_allowed p at (code.Goto jump) offered h = these_only p at (code.Goto jump) (goes jump ∷ []) offered h (tt, tt)
row_allowed p at (code.Switch jumps) offered h =
    these_only p at (code.Switch jumps) (map (λ jump. goes jump) jumps) offered h (all_mapped (IsAllowed p (code.Switch jumps)) (λ jump. goes jump) jumps (λ jump. tt))
row_allowed p at (code.Return a) offered h = gives_back p at (code.Return a) (returned p at.top a) offered h
row_allowed p at (code.Throw a) offered h = objects p at (code.Throw a) refl (operand_of p at.top a) (λ o. throws o ∷ []) offered h (λ o. (tt, tt))
row_allowed p at (code.Monitor a) offered h = objects p at (code.Monitor a) refl (operand_of p at.top a) (λ o. goes (at.top.index + 1) ∷ []) offered h (λ o. (tt, tt))
row_allowed p at code.Skip offered h = these_only p at code.Skip (goes (at.top.index + 1) ∷ []) offered h (tt, tt)
