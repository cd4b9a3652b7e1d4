-- What a state offers, and so the step of a choice, is determined.
use Rattle.std.proofs.Common.{◌≡◌, ℕ, ◌+◌, ◌<◌, ◌⊎◌, List, [], ◌∷◌, ◌++◌, Option, Some, None, Bool, true, false, length, map, slice_get, refl, sym, ap, ◌∙◌, subst, arith, inl, inr}
use Rattle.std.proofs.lemmas.Bool.{cases_order}
use Rattle.std.proofs.lemmas.Option.{get_or_from_slice_get}
use Rattle.class_rules.proofs.Selected.{selection_one}
use Rattle.lists.specs.Lists.{IsLeast, AreIncreasing}
use Rattle.lists.proofs.Places.{slice_get-below}
use Rattle.lists.proofs.Joined.{increasing_one}
use Rattle.jim_ast.specs.declared.syntax.Mode.{Mode}
use Rattle.jim_ast.specs.declared.syntax.Mode.TheVariants.{Special, Virtual, Interface, Static}
use Rattle.link_rules.specs.declared.code.Catch.{Catch}
use Rattle.link_rules.specs.declared.code.Code.{Code}
use Rattle.link_rules.specs.declared.code.Code.TheVariants.{This, Param, Caught, Copy, Cast, New, NewArray, NewMulti, Numeric, Length, Load, Store, LoadCell, StoreCell, LoadStatic, StoreStatic, Call, If, Goto, Switch, Return, Throw, Monitor, Skip}
use Rattle.link_rules.specs.Targets.{exception_names}
use Rattle.link_rules.specs.Accessed.{linked_class_names}
use Rattle.link_rules.specs.Linked.{LinkedMethod, LinkedProgram}
use Rattle.link_rules.specs.WellLinked.{IsInForm}
use Rattle.link_sites.specs.declared.site.Site.{Site}
use Rattle.link_sites.specs.declared.site.Site.TheVariants as site
use Rattle.link_sites.specs.Places.{CodeAt, HasCode}
use Rattle.link_sites.specs.Sites.{HasDeclared, IsArraySite, IsClassOfRaised, IsInnerSite, IsNamedClass}
use Rattle.step_rules.specs.declared.parts.Value.{Value}
use Rattle.step_rules.specs.declared.parts.Value.TheVariants.{Null, Number, Object}
use Rattle.step_rules.specs.Effects as effect
use Rattle.step_rules.specs.Effects.{Effect, is_ill_typed, raises, throws, goes, gets, makes, nests, writes, sets, returns, leaves}
use Rattle.step_rules.specs.Offers.{AtObject, CallsWith, Enters, EntersBelow, EntersBy, Finds, FindsElement, IsCaughtAt, MakesArray, MayCatch, Nests, Offers, OffersBy, Only, Row, Unwinds, UnwindsAt, Where, WithObject, WithValue}
use Rattle.step_rules.specs.Slots.{cells, field_of, local_of, operand_of, operands_of}
use Rattle.step_rules.specs.States.{Frame, HeapObject, Point, State, state_of, under}
use Rattle.step_rules.specs.Laws.{StepIsDetermined}
use Rattle.step_rules.specs.Steps.{Becomes, Choices, HasChoice, HasChoices, Leaves, Receives, ReceivesAt, Returns}
use Rattle.step_rules.proofs.Listing.{last_same, same_place}

-- the least number with a fact is one
pub least_one : (P : ℕ → Type 0) (a b : ℕ) → IsLeast P a → IsLeast P b → a ≡ b
least_one P a b x y = elim (cases_order a b) [
  | inl e ↦ e
  | inr o ↦ elim o [ inl l ↦ absurd (y.first a l x.holds) | inr g ↦ absurd (x.first b g y.holds) ]
]

-- one statement stands at a place
pub code_one : (p : LinkedProgram) (method index : ℕ) (c d : Code) → CodeAt p method index c → CodeAt p method index d → c ≡ d
code_one p method index c d x y =
    let same : x.method ≡ y.method = same_place p.methods method x.method y.method x.there y.there in
    same_place y.method.code index c d (subst (λ (m : LinkedMethod). slice_get m.code index ≡ Some c) same x.here) y.here

module _ (p : LinkedProgram) (at : Point) (form : IsInForm p) where
  only_one : (these a b : List Effect) → Only these a → Only these b → a ≡ b
  only_one these a b x y = x ∙ sym y

  with_value_one : (source : Option Value) (R : Value → List Effect → Type 0) (a b : List Effect) → ((v : Value) → R v a → R v b → a ≡ b)
      → WithValue source R a → WithValue source R b → a ≡ b
  with_value_one (Some v) R a b one x y = one v x y
  with_value_one None R a b one x y = only_one (is_ill_typed ∷ []) a b x y

  with_object_one : (v : Value) (R : ℕ → List Effect → Type 0) (a b : List Effect) → ((o : ℕ) → R o a → R o b → a ≡ b)
      → WithObject v R a → WithObject v R b → a ≡ b
  with_object_one (Object o) R a b one x y = one o x y
  with_object_one Null R a b one x y = only_one (raises 0 ∷ []) a b x y
  with_object_one Number R a b one x y = only_one (is_ill_typed ∷ []) a b x y

  at_object_one : (heap : List HeapObject) (o : ℕ) (R : HeapObject → List Effect → Type 0) (a b : List Effect) → ((object : HeapObject) → R object a → R object b → a ≡ b)
      → AtObject heap o R a → AtObject heap o R b → a ≡ b
  at_object_one heap o R a b one x y =
      let same : x.0 ≡ y.0 = same_place heap o x.0 y.0 x.1 y.1 in one y.0 (subst (λ object. R object a) same x.2) y.2

  where_one : (Fact : Type 0) (these a b : List Effect) → Where Fact these a → Where Fact these b → a ≡ b
  where_one Fact these a b x y = elim x [
    | inl h ↦ elim y [ inl k ↦ only_one these a b h.1 k.1 | inr k ↦ absurd (k.0 h.0) ]
    | inr h ↦ elim y [ inl k ↦ absurd (h.0 k.0) | inr k ↦ only_one (is_ill_typed ∷ []) a b h.1 k.1 ]
  ]

  at_where_one : (heap : List HeapObject) (o : ℕ) (Fact : HeapObject → Type 0) (these : HeapObject → List Effect) (a b : List Effect)
      → AtObject heap o (λ object. Where (Fact object) (these object)) a → AtObject heap o (λ object. Where (Fact object) (these object)) b → a ≡ b
  at_where_one heap o Fact these a b x y =
      at_object_one heap o (λ object. Where (Fact object) (these object)) a b (λ object h k. where_one (Fact object) (these object) a b h k) x y

  -- one method is found
  finds_one : (class key i j : ℕ) (m n : LinkedMethod) → Finds p class key i m → Finds p class key j n → (i ≡ j) × (m ≡ n)
  finds_one class key i j m n x y =
      let rows : Some x.row ≡ Some y.row = selection_one p.rows class key (Some x.row) (Some y.row) x.resolved y.resolved in
      let row : x.row ≡ y.row = cc in
      let same : i ≡ j = increasing_one p.method_rows i j y.row form.ordered (x.numbered ∙ ap Some row) y.numbered in
      (same, same_place p.methods j m n (subst (λ k. slice_get p.methods k ≡ Some m) same x.there) y.there)

  enters_one : (class key : ℕ) (this : Option Value) (args : List Value) (a b : List Effect) → Enters p class key this args a → Enters p class key this args b → a ≡ b
  enters_one class key this args a b x y = elim x [
    | inl h ↦ elim y [
      | inl k ↦ let same = finds_one class key h.0 k.0 h.1 k.1 h.2 k.2 in h.3 ∙ rw (same.0, same.1) (sym k.3)
      | inr k ↦ absurd (k.0 h.0 h.1 h.2)
    ]
    | inr h ↦ elim y [ inl k ↦ absurd (h.0 k.0 k.1 k.2) | inr k ↦ only_one (is_ill_typed ∷ []) a b h.1 k.1 ]
  ]

  below_one : (class from key : ℕ) (this : Option Value) (args : List Value) (a b : List Effect) → EntersBelow p class from key this args a
      → EntersBelow p class from key this args b → a ≡ b
  below_one class from key this args a b x y = elim x [
    | inl h ↦ elim y [ inl k ↦ enters_one from key this args a b h.1 k.1 | inr k ↦ absurd (k.0 h.0) ]
    | inr h ↦ elim y [ inl k ↦ absurd (h.0 k.0) | inr k ↦ only_one (is_ill_typed ∷ []) a b h.1 k.1 ]
  ]

  by_one : (mode : Mode) (class key : ℕ) (object : HeapObject) (this : Option Value) (args : List Value) (a b : List Effect)
      → EntersBy p mode class key object this args a → EntersBy p mode class key object this args b → a ≡ b
  by_one Static class key object this args a b x y = enters_one class key this args a b x y
  by_one Special class key object this args a b x y = enters_one class key this args a b x y
  by_one Virtual class key object this args a b x y = below_one class object.class key this args a b x y
  by_one Interface class key object this args a b x y = below_one class object.class key this args a b x y

  calls_one : (mode : Mode) (class key : ℕ) (receiver : Option ℕ) (args : Option (List Value)) (a b : List Effect) → CallsWith p at mode class key receiver args a
      → CallsWith p at mode class key receiver args b → a ≡ b
  calls_one mode class key None (Some args) a b x y = enters_one class key None args a b x y
  calls_one mode class key (Some receiver) (Some args) a b x y =
      with_value_one (local_of at.top receiver) _ a b (λ v h k. with_object_one v _ a b (λ o r s.
      at_object_one at.heap o (λ object. EntersBy p mode class key object (Some v) args) a b (λ object. by_one mode class key object (Some v) args a b) r s) h k) x y
  calls_one mode class key receiver None a b x y = only_one (is_ill_typed ∷ []) a b x y

  on_object_one : (source : Option Value) (R : ℕ → List Effect → Type 0) (a b : List Effect) → ((o : ℕ) → R o a → R o b → a ≡ b)
      → WithValue source (λ v. WithObject v R) a → WithValue source (λ v. WithObject v R) b → a ≡ b
  on_object_one source R a b one x y = with_value_one source (λ v. WithObject v R) a b (λ v h k. with_object_one v R a b one h k) x y

  array_one : (to : ℕ) (a b : List Effect) → MakesArray p to a → MakesArray p to b → a ≡ b
  array_one to a b x y = let same = least_one _ x.0 y.0 x.1 y.1 in x.2 ∙ rw same (sym y.2)

  -- arrays of a site hold arrays of one other
  inner_one : (outer a b : Site) → IsInnerSite p outer a → IsInnerSite p outer b → a ≡ b
  inner_one (site.New place) a b x y = x.1 ∙ sym y.1
  inner_one (site.Nested place level) a b x y = x.1 ∙ sym y.1
  inner_one (site.Raised place kind) a b x y = absurd x
  inner_one (site.Text number) a b x y = absurd x
  inner_one (site.Class number) a b x y = absurd x

  nests_one : (to o : ℕ) (outer : Site) (a b : List Effect) → Nests p to o outer a → Nests p to o outer b → a ≡ b
  nests_one to o outer a b x y = elim x [
    | inl h ↦ elim y [
      | inl k ↦ let inner = inner_one outer h.0 k.0 h.2 k.2 in let class = least_one _ h.1 k.1 h.3 k.3 in h.4 ∙ rw (inner, class) (sym k.4)
      | inr k ↦ absurd (k.0 h.0 h.2)
    ]
    | inr h ↦ elim y [ inl k ↦ absurd (h.0 k.0 k.2) | inr k ↦ h.1 ∙ sym k.1 ]
  ]

  cell_one : (to o : ℕ) (object : HeapObject) (a b : List Effect) → FindsElement p to o object a → FindsElement p to o object b → a ≡ b
  cell_one to o object a b x y = elim x [
    | inl h ↦ elim y [
      | inl k ↦ let f = h.1 in let g = k.1 in let more = nests_one to o object.site f.0 g.0 f.1 g.1 in f.2 ∙ rw more (sym g.2)
      | inr k ↦ absurd (k.0 h.0)
    ]
    | inr h ↦ elim y [ inl k ↦ absurd (h.0 k.0) | inr k ↦ only_one (is_ill_typed ∷ []) a b h.1 k.1 ]
  ]

  row_one : (code : Code) (a b : List Effect) → Row p at code a → Row p at code b → a ≡ b
  row_one (This to) a b x y = with_value_one at.top.this _ a b (λ v h k. only_one (gets to v ∷ []) a b h k) x y
  row_one (Param to number) a b x y = with_value_one (slice_get at.top.params number) _ a b (λ v h k. only_one (gets to v ∷ []) a b h k) x y
  row_one (Caught to) a b x y = with_value_one at.top.caught _ a b (λ v h k. only_one (gets to v ∷ []) a b h k) x y
  row_one (Copy to c) a b x y = with_value_one (operand_of p at.top c) _ a b (λ v h k. only_one (gets to v ∷ []) a b h k) x y
  row_one (Cast to c) a b x y = with_value_one (operand_of p at.top c) _ a b (λ v h k. only_one (gets to v ∷ raises 4 ∷ []) a b h k) x y
  row_one (New to class) a b x y = only_one (makes to class ∷ []) a b x y
  row_one (NewArray to) a b x y = array_one to a b x y
  row_one (NewMulti to levels) a b x y = array_one to a b x y
  row_one (Numeric to true) a b x y = only_one (gets to Number ∷ raises 5 ∷ []) a b x y
  row_one (Numeric to false) a b x y = only_one (gets to Number ∷ []) a b x y
  row_one (Length to c) a b x y = on_object_one (operand_of p at.top c) _ a b (λ o h k. only_one (gets to Number ∷ []) a b h k) x y
  row_one (Load to base field) a b x y = on_object_one (local_of at.top base) _ a b (λ o h k.
      at_where_one at.heap o (λ object. HasDeclared p object.class field) (λ object. gets to (field_of object field) ∷ []) a b h k) x y
  row_one (Store base field c) a b x y = with_value_one (operand_of p at.top c) _ a b (λ v g f. on_object_one (local_of at.top base) _ a b (λ o h k.
      at_where_one at.heap o (λ object. HasDeclared p object.class field) (λ object. writes o field v ∷ []) a b h k) g f) x y
  row_one (LoadCell to base) a b x y = on_object_one (local_of at.top base) _ a b (λ o h k.
      at_object_one at.heap o (FindsElement p to o) a b (λ object. cell_one to o object a b) h k) x y
  row_one (StoreCell base c) a b x y = with_value_one (operand_of p at.top c) _ a b (λ v g f. on_object_one (local_of at.top base) _ a b (λ o h k.
      at_where_one at.heap o (λ object. IsArraySite p object.site) (λ object. writes o 0 v ∷ raises 1 ∷ raises 2 ∷ []) a b h k) g f) x y
  row_one (LoadStatic to field) a b x y = let same = same_place at.statics field x.0 y.0 x.1 y.1 in x.2 ∙ rw same (sym y.2)
  row_one (StoreStatic field c) a b x y = with_value_one (operand_of p at.top c) _ a b (λ v h k. only_one (sets field v ∷ []) a b h k) x y
  row_one (Call to mode class key receiver args targets) a b x y = calls_one mode class key receiver (operands_of p at.top args) a b x y
  row_one (If jump) a b x y = only_one (goes (at.top.index + 1) ∷ goes jump ∷ []) a b x y
  row_one (Goto jump) a b x y = only_one (goes jump ∷ []) a b x y
  row_one (Switch jumps) a b x y = only_one (map (λ jump. goes jump) jumps) a b x y
  row_one (Return None) a b x y = only_one (returns None ∷ []) a b x y
  row_one (Return (Some c)) a b x y = with_value_one (operand_of p at.top c) _ a b (λ v h k. only_one (returns (Some v) ∷ []) a b h k) x y
  row_one (Throw c) a b x y = on_object_one (operand_of p at.top c) _ a b (λ o h k. only_one (throws o ∷ []) a b h k) x y
  row_one (Monitor c) a b x y = on_object_one (operand_of p at.top c) _ a b (λ o h k. only_one (goes (at.top.index + 1) ∷ []) a b h k) x y
  row_one Skip a b x y = only_one (goes (at.top.index + 1) ∷ []) a b x y

  caught_one : (handlers : List Catch) (t class h k : ℕ) → IsCaughtAt p handlers t class h → IsCaughtAt p handlers t class k → h ≡ k
  caught_one handlers t class h k x y =
      let number = least_one (MayCatch p handlers t class) x.number y.number x.first y.first in
      let same : x.catch ≡ y.catch = same_place handlers y.number x.catch y.catch (subst (λ i. slice_get handlers i ≡ Some x.catch) number x.there) y.there in
      x.is_handler ∙ ap (λ (c : Catch). c.handler) same ∙ sym y.is_handler

  unwinds_one : (m : LinkedMethod) (t o class : ℕ) (a b : List Effect) → Unwinds p m t o class a → Unwinds p m t o class b → a ≡ b
  unwinds_one m t o class a b x y = elim x [
    | inl h ↦ elim y [
      | inl k ↦ let same = caught_one m.catches t class h.0 k.0 h.1 k.1 in h.2 ∙ rw same (sym k.2)
      | inr k ↦ absurd (k.0 h.1.number h.1.first.holds)
    ]
    | inr h ↦ elim y [ inl k ↦ absurd (h.0 k.1.number k.1.first.holds) | inr k ↦ only_one (leaves o ∷ []) a b h.1 k.1 ]
  ]

  unwinds_at_one : (thrown : Option Value) (a b : List Effect) → UnwindsAt p at thrown a → UnwindsAt p at thrown b → a ≡ b
  unwinds_at_one (Some (Object o)) a b x y =
      let same : x.0 ≡ y.0 = same_place p.methods at.top.method x.0 y.0 x.1 y.1 in
      at_object_one at.heap o (λ object. Unwinds p y.0 at.top.index o object.class) a b (λ object r s. unwinds_one y.0 at.top.index o object.class a b r s)
      (subst (λ m. AtObject at.heap o (λ object. Unwinds p m at.top.index o object.class) a) same x.2) y.2
  unwinds_at_one (Some Null) a b x y = absurd x
  unwinds_at_one (Some Number) a b x y = absurd x
  unwinds_at_one None a b x y = absurd x

  -- what is offered is determined
  pub offers_one : (a b : List Effect) → Offers p at a → Offers p at b → a ≡ b
  offers_one a b x y = by at.top.raised x y where
    by : (raised : Bool) → OffersBy raised p at a → OffersBy raised p at b → a ≡ b
    by false x y =
        let same = code_one p at.top.method at.top.index x.code y.code x.at y.at in
        row_one y.code a b (subst (λ code. Row p at code a) same x.is_so) y.is_so
    by true x y = unwinds_at_one at.top.thrown a b x y

-- a state that goes on has one point
pub point_one : (at other : Point) → state_of at ≡ state_of other → at ≡ other
point_one at other e =
    let frames : at.below ++ at.top ∷ [] ≡ other.below ++ other.top ∷ [] = ap (λ (s : State). s.frames) e in
    let parts = last_same at.below other.below at.top other.top frames in
    same_point at.below other.below at.top other.top at.heap other.heap at.statics other.statics parts.0 parts.1 (ap (λ (s : State). s.heap) e)
    (ap (λ (s : State). s.statics) e)
  where
    same_point : (b c : List Frame) (t u : Frame) (g h : List HeapObject) (s r : List Value) → b ≡ c → t ≡ u → g ≡ h → s ≡ r
        → ◌≡◌ {A = Point} (record { below = b; top = t; heap = g; statics = s }) (record { below = c; top = u; heap = h; statics = r })
    same_point b c t u g h s r p q v w = rw (p, q, v, w) refl

-- the number of choices is determined
pub choices_one : (p : LinkedProgram) (s : State) (a b : ℕ) → IsInForm p → Choices p s a → Choices p s b → a ≡ b
choices_one p s a b form x y = elim x [
  | inl h ↦ elim y [ inl k ↦ h.1 ∙ sym k.1 | inr k ↦ absurd (h.0 (ap (λ (t : State). t.ending) k.stands)) ]
  | inr h ↦ elim y [ inl k ↦ absurd (k.0 (ap (λ (t : State). t.ending) h.stands)) | inr k ↦ both h k ]
] where
  both : HasChoices p s a → HasChoices p s b → a ≡ b
  both h k =
      let same : h.at ≡ k.at = point_one h.at k.at (sym h.stands ∙ k.stands) in
      let offered = offers_one p k.at form h.offered k.offered (subst (λ at. Offers p at h.offered) same h.offers) k.offers in
      h.as_many ∙ ap (λ (l : List Effect). length l) offered ∙ sym k.as_many

-- a choice that a step has is below the number of its choices
pub below_choices : (p : LinkedProgram) (s : State) (choice : ℕ) → IsInForm p → HasChoice p s choice → (count : ℕ) → Choices p s count → choice < count
below_choices p s choice form has count h = omega (arith, has.2, choices_one p s has.0 count form has.1 h)

-- the class of an exception is determined
raised_one : (p : LinkedProgram) (kind a b : ℕ) → IsClassOfRaised p kind a → IsClassOfRaised p kind b → a ≡ b
raised_one p kind a b x y =
    let same : x.0 ≡ y.0 = same_place exception_names kind x.0 y.0 x.1 y.1 in
    least_one (λ i. slice_get (linked_class_names p.classes) i ≡ Some y.0) a b (subst (λ (n : List ℕ). IsNamedClass p n a) same x.2) y.2

no_last : {X : Type 0} (xs : List X) (x : X) → xs ++ x ∷ [] ≡ [] → ⊥
no_last [] x e = cc
no_last (y ∷ xs) x e = cc

module _ (p : LinkedProgram) (at : Point) (new other : State) where
  same_end : (s : State) → new ≡ s → other ≡ s → new ≡ other
  same_end s x y = x ∙ sym y

  received_one : (below : List Frame) (caller : Frame) (value : Option Value) (code : Code) → ReceivesAt code value (under below caller at) new
      → ReceivesAt code value (under below caller at) other → new ≡ other
  received_one below caller value (Call to mode class key receiver args targets) x y = by to value x y where
    by : (to : Option ℕ) (value : Option Value) → Receives to value (under below caller at) new → Receives to value (under below caller at) other → new ≡ other
    by None value x y = x ∙ sym y
    by (Some to) (Some v) x y = x ∙ sym y
    by (Some to) None x y = x ∙ sym y
  received_one below caller value _ x y = absurd x

  returns_one : (value : Option Value) → Returns p at value new → Returns p at value other → new ≡ other
  returns_one value x y = elim x [
    | inl h ↦ elim y [ inl k ↦ h.1 ∙ sym k.1 | inr k ↦ absurd (no_last k.0 k.1 (sym k.2 ∙ h.0)) ]
    | inr h ↦ elim y [
      | inl k ↦ absurd (no_last h.0 h.1 (sym h.2 ∙ k.0))
      | inr k ↦ both h.0 k.0 h.1 k.1 h.3 k.3 (last_same h.0 k.0 h.1 k.1 (sym h.2 ∙ k.2))
    ]
  ] where
    both : (below rest : List Frame) (caller frame : Frame)
        → HasCode p caller.method caller.index (λ code. ReceivesAt code value (under below caller at) new)
        → HasCode p frame.method frame.index (λ code. ReceivesAt code value (under rest frame at) other) → (below ≡ rest) × (caller ≡ frame) → new ≡ other
    both below rest caller frame x y same =
        let moved = subst (λ (l : List Frame). HasCode p frame.method frame.index (λ code. ReceivesAt code value (under l frame at) new)) same.0
        (subst (λ (f : Frame). HasCode p f.method f.index (λ code. ReceivesAt code value (under below f at) new)) same.1 x) in
        let code = code_one p frame.method frame.index moved.code y.code moved.at y.at in
        received_one rest frame value y.code (subst (λ (c : Code). ReceivesAt c value (under rest frame at) new) code moved.is_so) y.is_so

  leaves_one : (o : ℕ) → Leaves at o new → Leaves at o other → new ≡ other
  leaves_one o x y = elim x [
    | inl h ↦ elim y [ inl k ↦ h.1 ∙ sym k.1 | inr k ↦ absurd (no_last k.0 k.1 (sym k.2 ∙ h.0)) ]
    | inr h ↦ elim y [
      | inl k ↦ absurd (no_last h.0 h.1 (sym h.2 ∙ k.0))
      | inr k ↦ let same = last_same h.0 k.0 h.1 k.1 (sym h.2 ∙ k.2) in h.3 ∙ rw (same.0, same.1) (sym k.3)
    ]
  ]

  -- where an effect leads is determined
  becomes_one : (e : Effect) → Becomes p at e new → Becomes p at e other → new ≡ other
  becomes_one (effect.raises kind) x y = x.2 ∙ rw (raised_one p kind x.0 y.0 x.1 y.1) (sym y.2)
  becomes_one (effect.writes o field value) x y = x.2 ∙ rw (same_place at.heap o x.0 y.0 x.1 y.1) (sym y.2)
  becomes_one (effect.nests to o inner class) x y = x.2 ∙ rw (same_place at.heap o x.0 y.0 x.1 y.1) (sym y.2)
  becomes_one (effect.returns value) x y = returns_one value x y
  becomes_one (effect.leaves o) x y = leaves_one o x y
  becomes_one _ x y = x ∙ sym y

-- the step of a choice is determined
pub step_one : StepIsDetermined
step_one p s choice new other form x y =
    let same : x.at ≡ y.at = point_one x.at y.at (sym x.stands ∙ y.stands) in
    let offered = offers_one p y.at form x.offered y.offered (subst (λ at. Offers p at x.offered) same x.offers) y.offers in
    let chosen : slice_get y.offered choice ≡ Some x.effect = subst (λ (l : List Effect). slice_get l choice ≡ Some x.effect) offered x.chosen in
    let effect = same_place y.offered choice x.effect y.effect chosen y.chosen in
    becomes_one p y.at new other y.effect (subst (λ (e : Effect). Becomes p y.at e new) effect (subst (λ at. Becomes p at x.effect new) same x.becomes)) y.becomes
