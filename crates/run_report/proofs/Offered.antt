-- A state that goes on offers something.
use Rattle.std.proofs.Common.{◌≢◌, ℕ, ◌+◌, ◌<◌, ◌++◌, Bool, true, false, Option, Some, None, List, [], ◌∷◌, length, map, slice_get, refl, sym, subst, inl, inr, arith}
use Rattle.jim_ast.specs.declared.syntax.Mode.{Mode}
use Rattle.jim_ast.specs.declared.syntax.Mode.TheVariants.{Special, Virtual, Interface, Static}
use Rattle.link_rules.specs.declared.code.Code.{Code}
use Rattle.link_rules.specs.declared.code.Code.TheVariants as code
use Rattle.link_rules.specs.Linked.{LinkedMethod, LinkedProgram}
use Rattle.link_rules.specs.WellLinked.{FitsCode, FitsMethod, IsInForm}
use Rattle.link_laws.proofs.Lists.{at_all}
use Rattle.link_sites.specs.Sites.{HasDeclared, IsArraySite}
use Rattle.step_rules.specs.declared.parts.Value.{Value}
use Rattle.step_rules.specs.declared.parts.Value.TheVariants.{Null, Number, Object}
use Rattle.step_rules.specs.Effects.{Effect, is_ill_typed, raises, throws, goes, gets, makes, writes, sets, calls, returns, handles, leaves}
use Rattle.step_rules.specs.Offers.{AtObject, CallsOn, CallsWith, Enters, EntersBelow, EntersBy, FindsElement, GivesBack, OffersBy, Only, Row, UnwindsAt, Where, WithObject, WithValue, returned}
use Rattle.step_rules.specs.Slots.{cells, field_of, local_of, operand_of, operands_of}
use Rattle.step_rules.specs.States.{HeapObject, Point, State, new_frame}
use Rattle.step_rules.specs.Steps.{HasChoices}

-- there is one at least
abbrev IsSome : List Effect → Type 0
IsSome offered = 0 < length offered

these : (e : Effect) (es offered : List Effect) → Only (e ∷ es) offered → IsSome offered
these e es offered h = subst IsSome (sym h) (omega arith)

by_value : (source : Option Value) (Rest : Value → List Effect → Type 0) (a : List Effect) → ((v : Value) → Rest v a → IsSome a)
    → WithValue source Rest a → IsSome a
by_value (Some v) Rest a f h = f v h
by_value None Rest a f h = these is_ill_typed [] a h

by_object : (v : Value) (Rest : ℕ → List Effect → Type 0) (a : List Effect) → ((o : ℕ) → Rest o a → IsSome a) → WithObject v Rest a → IsSome a
by_object (Object o) Rest a f h = f o h
by_object Null Rest a f h = these (raises 0) [] a h
by_object Number Rest a f h = these is_ill_typed [] a h

by_fact : (Fact : Type 0) (e : Effect) (es a : List Effect) → Where Fact (e ∷ es) a → IsSome a
by_fact Fact e es a h = elim h [ inl so ↦ these e es a so.1 | inr not ↦ these is_ill_typed [] a not.1 ]

values : (source : Option Value) (e : Value → Effect) (es : Value → List Effect) (a : List Effect) → WithValue source (λ v. Only (e v ∷ es v)) a → IsSome a
values source e es a h = by_value source (λ v. Only (e v ∷ es v)) a (λ v x. these (e v) (es v) a x) h

objects : (source : Option Value) (e : ℕ → Effect) (a : List Effect) → WithValue source (λ v. WithObject v (λ o. Only (e o ∷ []))) a → IsSome a
objects source e a h = by_value source (λ v. WithObject v (λ o. Only (e o ∷ []))) a
    (λ v x. by_object v (λ o. Only (e o ∷ [])) a (λ o y. these (e o) [] a y) x) h

accesses : (heap : List HeapObject) (source : Option Value) (Fact : HeapObject → Type 0) (e : ℕ → HeapObject → Effect) (es : ℕ → HeapObject → List Effect) (a : List Effect)
    → WithValue source (λ v. WithObject v (λ o. AtObject heap o (λ object. Where (Fact object) (e o object ∷ es o object)))) a → IsSome a
accesses heap source Fact e es a h =
    by_value source (λ v. WithObject v (λ o. AtObject heap o (λ object. Where (Fact object) (e o object ∷ es o object)))) a
    (λ v x. by_object v (λ o. AtObject heap o (λ object. Where (Fact object) (e o object ∷ es o object))) a
    (λ o y. by_fact (Fact y.0) (e o y.0) (es o y.0) a y.2) x) h

stores : (heap : List HeapObject) (source base : Option Value) (Fact : HeapObject → Type 0) (e : Value → ℕ → HeapObject → Effect) (es : List Effect) (a : List Effect)
    → WithValue source (λ w. WithValue base (λ v. WithObject v (λ o. AtObject heap o (λ object. Where (Fact object) (e w o object ∷ es))))) a → IsSome a
stores heap source base Fact e es a h =
    by_value source (λ w. WithValue base (λ v. WithObject v (λ o. AtObject heap o (λ object. Where (Fact object) (e w o object ∷ es))))) a
    (λ w x. accesses heap base Fact (e w) (λ o object. es) a x) h

gives_back : (o : Option (Option Value)) (a : List Effect) → GivesBack o a → IsSome a
gives_back None a h = these (returns None) [] a h
gives_back (Some source) a h = values source (λ v. returns (Some v)) (λ v. []) a h

module _ (p : LinkedProgram) (at : Point) where
  enters : (class key : ℕ) (this : Option Value) (args : List Value) (a : List Effect) → Enters p class key this args a → IsSome a
  enters class key this args a h = elim h [ inl f ↦ these (calls (new_frame f.0 f.1 this args)) [] a f.3 | inr none ↦ these is_ill_typed [] a none.1 ]

  below : (class from key : ℕ) (this : Option Value) (args : List Value) (a : List Effect) → EntersBelow p class from key this args a → IsSome a
  below class from key this args a h = elim h [ inl f ↦ enters from key this args a f.1 | inr not ↦ these is_ill_typed [] a not.1 ]

  by_mode : (mode : Mode) (class key : ℕ) (object : HeapObject) (this : Option Value) (args : List Value) (a : List Effect)
      → EntersBy p mode class key object this args a → IsSome a
  by_mode Static class key object this args a h = enters class key this args a h
  by_mode Special class key object this args a h = enters class key this args a h
  by_mode Virtual class key object this args a h = below class object.class key this args a h
  by_mode Interface class key object this args a h = below class object.class key this args a h

  calling : (mode : Mode) (class key : ℕ) (r : Option ℕ) (o : Option (List Value)) (a : List Effect) → CallsWith p at mode class key r o a → IsSome a
  calling mode class key None (Some args) a h = enters class key None args a h
  calling mode class key (Some x) (Some args) a h =
      by_value (local_of at.top x) (λ v. CallsOn p at mode class key v args) a
      (λ v s. by_object v (λ o. AtObject at.heap o (λ object. EntersBy p mode class key object (Some v) args)) a
      (λ o q. by_mode mode class key q.0 (Some v) args a q.2) s) h
  calling mode class key None None a h = these is_ill_typed [] a h
  calling mode class key (Some x) None a h = these is_ill_typed [] a h

  jumping : (jumps : List ℕ) → jumps ≢ [] → (a : List Effect) → Only (map (λ jump. goes jump) jumps) a → IsSome a
  jumping [] some a h = absurd (some refl)
  jumping (j ∷ js) some a h = these (goes j) (map (λ jump. goes jump) js) a h

  element : (to o : ℕ) (object : HeapObject) (a : List Effect) → FindsElement p to o object a → IsSome a
  element to o object a h = elim h [
    | inl found ↦ let cell = found.1 in these (gets to Null) (map (λ cell. gets to cell) (cells object) ++ raises 1 ∷ cell.0) a cell.2
    | inr not ↦ these is_ill_typed [] a not.1
  ]

  row_some : (m : LinkedMethod) (c : Code) → FitsCode p m c → (a : List Effect) → Row p at c a → IsSome a
  row_some m (code.This to) fit a h = values at.top.this (λ v. gets to v) (λ v. []) a h
  row_some m (code.Param to n) fit a h = values (slice_get at.top.params n) (λ v. gets to v) (λ v. []) a h
  row_some m (code.Caught to) fit a h = values at.top.caught (λ v. gets to v) (λ v. []) a h
  row_some m (code.Copy to x) fit a h = values (operand_of p at.top x) (λ v. gets to v) (λ v. []) a h
  row_some m (code.Cast to x) fit a h = values (operand_of p at.top x) (λ v. gets to v) (λ v. raises 4 ∷ []) a h
  row_some m (code.New to class) fit a h = these (makes to class) [] a h
  row_some m (code.NewArray to) fit a h = these (makes to h.0) (raises 3 ∷ []) a h.2
  row_some m (code.NewMulti to levels) fit a h = these (makes to h.0) (raises 3 ∷ []) a h.2
  row_some m (code.Numeric to true) fit a h = these (gets to Number) (raises 5 ∷ []) a h
  row_some m (code.Numeric to false) fit a h = these (gets to Number) [] a h
  row_some m (code.Length to x) fit a h = objects (operand_of p at.top x) (λ o. gets to Number) a h
  row_some m (code.Load to base field) fit a h =
      accesses at.heap (local_of at.top base) (λ object. HasDeclared p object.class field) (λ o object. gets to (field_of object field)) (λ o object. []) a h
  row_some m (code.Store base field x) fit a h =
      stores at.heap (operand_of p at.top x) (local_of at.top base) (λ object. HasDeclared p object.class field) (λ w o object. writes o field w) [] a h
  row_some m (code.LoadCell to base) fit a h =
      by_value (local_of at.top base) (λ v. WithObject v (λ o. AtObject at.heap o (λ object. FindsElement p to o object))) a
      (λ v x. by_object v (λ o. AtObject at.heap o (λ object. FindsElement p to o object)) a (λ o y. element to o y.0 a y.2) x) h
  row_some m (code.StoreCell base x) fit a h =
      stores at.heap (operand_of p at.top x) (local_of at.top base) (λ object. IsArraySite p object.site) (λ w o object. writes o 0 w) (raises 1 ∷ raises 2 ∷ []) a h
  row_some m (code.LoadStatic to field) fit a h = these (gets to h.0) [] a h.2
  row_some m (code.StoreStatic field x) fit a h = values (operand_of p at.top x) (λ v. sets field v) (λ v. []) a h
  row_some m (code.Call to mode class key receiver args targets) fit a h = calling mode class key receiver (operands_of p at.top args) a h
  row_some m (code.If jump) fit a h = these (goes (at.top.index + 1)) (goes jump ∷ []) a h
  row_some m (code.Goto jump) fit a h = these (goes jump) [] a h
  row_some m (code.Switch jumps) fit a h = jumping jumps fit a h
  row_some m (code.Return x) fit a h = gives_back (returned p at.top x) a h
  row_some m (code.Throw x) fit a h = objects (operand_of p at.top x) (λ o. throws o) a h
  row_some m (code.Monitor x) fit a h = objects (operand_of p at.top x) (λ o. goes (at.top.index + 1)) a h
  row_some m code.Skip fit a h = these (goes (at.top.index + 1)) [] a h

  unwinding : (thrown : Option Value) (a : List Effect) → UnwindsAt p at thrown a → IsSome a
  unwinding (Some (Object o)) a h = elim h.2.2 [ inl f ↦ these (handles f.0 o) [] a f.2 | inr none ↦ these (leaves o) [] a none.1 ]
  unwinding (Some Null) a h = elim h [ ]
  unwinding (Some Number) a h = elim h [ ]
  unwinding None a h = elim h [ ]

  by_flight : IsInForm p → (raised : Bool) (a : List Effect) → OffersBy raised p at a → IsSome a
  by_flight form false a h =
      let fits = at_all (FitsMethod p) p.methods at.top.method h.at.method form.methods h.at.there in
      row_some h.at.method h.code (at_all (FitsCode p h.at.method) h.at.method.code at.top.index h.code fits.codes h.at.here) a h.is_so
  by_flight form true a h = unwinding at.top.thrown a h

-- a step has a choice
pub choices_some : (p : LinkedProgram) → IsInForm p → {s : State} {count : ℕ} → HasChoices p s count → 0 < count
choices_some p form has = subst (λ n. 0 < n) (sym has.as_many) (by_flight p has.at form has.at.top.raised has.offered has.offers)
