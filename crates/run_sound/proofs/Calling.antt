-- The row of calls: the frame of a method that is called, and what it holds.
use Rattle.std.proofs.Common.{◌≡◌, ℕ, zero, suc, ◌<◌, Option, Some, None, IfSome, is_some, All, List, [], ◌∷◌, length, replicate, slice_get, refl, sym, ap, ◌∙◌, subst, inl, inr, arith}
use Rattle.std.proofs.lemmas.List.{length-replicate}
use Rattle.lists.specs.Lists.{Has}
use Rattle.lists.proofs.Places.{slice_get-below, slice_get-there}
use Rattle.jim_ast.specs.declared.syntax.Mode.{Mode}
use Rattle.jim_ast.specs.declared.syntax.Mode.TheVariants.{Special, Virtual, Interface, Static}
use Rattle.link_rules.specs.declared.code.Arg.{Arg}
use Rattle.link_rules.specs.declared.code.Arg.TheVariants as arg
use Rattle.link_rules.specs.declared.code.Code.{Code}
use Rattle.link_rules.specs.declared.code.Code.TheVariants as code
use Rattle.link_rules.specs.Linked.{LinkedMethod, LinkedProgram}
use Rattle.link_rules.specs.WellLinked.{FitsArg, FitsCode, HasTarget, IsLocalOf, IsWellLinked, IsWellLinkedCode, SuitsCall}
use Rattle.link_laws.proofs.Lists.{at_all}
use Rattle.run_covers.proofs.Offered.{AllOf, only}
use Rattle.spds_rules.specs.declared.node.Var.TheVariants as var
use Rattle.spds_rules.specs.Edges.{Passes}
use Rattle.spds_rules.specs.Nodes.{arg_var}
use Rattle.step_rules.specs.declared.parts.Slot.{Slot}
use Rattle.step_rules.specs.declared.parts.Slot.TheVariants as slots
use Rattle.step_rules.specs.declared.parts.Value.{Value}
use Rattle.step_rules.specs.declared.parts.Value.TheVariants.{Null, Number, Object}
use Rattle.step_rules.specs.Effects.{Effect, calls, raises}
use Rattle.step_rules.specs.Offers.{CallsOn, CallsWith, Enters, EntersBelow, EntersBy, Row}
use Rattle.step_rules.specs.Slots.{before_all, if_set, local_of, operand_of, operands_of, slot_of}
use Rattle.step_rules.specs.States.{Frame, HeapObject, Point, new_frame}
use Rattle.run_sound.specs.Frames.{var_of}
use Rattle.run_sound.proofs.Explained.{CanEnter, IsBy, IsExplained, by_slot, operand}
use Rattle.run_sound.proofs.Invariant.{IsShaped}
use Rattle.run_sound.proofs.Offered.{not_typed, of_value}

-- the arguments, by the operands
record AreOperands (p : LinkedProgram) (f : Frame) (args : List Arg) (values : List Value) : Type 0 where
  pub as_many : length values ≡ length args
  pub each : (i : ℕ) (v : Value) → slice_get values i ≡ Some v → (a : Arg) × (slice_get args i ≡ Some a) × (operand_of p f a ≡ Some v)

-- the arguments are what the operands are
operands : (p : LinkedProgram) (f : Frame) (args : List Arg) (values : List Value) → operands_of p f args ≡ Some values → AreOperands p f args values
operands p f [] values e = let none : [] ≡ values = cc in subst (AreOperands p f []) none (record { as_many = refl; each = λ i v h. cc })
operands p f (a ∷ args) values e = by (operand_of p f a) (operands_of p f args) refl refl e (operands p f args)
  where
    by : (first : Option Value) (rest : Option (List Value)) → operand_of p f a ≡ first → operands_of p f args ≡ rest → before_all first rest ≡ Some values
        → ((vs : List Value) → operands_of p f args ≡ Some vs → AreOperands p f args vs) → AreOperands p f (a ∷ args) values
    by None rest one two e more = cc
    by (Some v) None one two e more = cc
    by (Some v) (Some vs) one two e more =
        let is : v ∷ vs ≡ values = cc in
        let later = more vs two in
        let each : (i : ℕ) (w : Value) → slice_get (v ∷ vs) i ≡ Some w → (b : Arg) × (slice_get (a ∷ args) i ≡ Some b) × (operand_of p f b ≡ Some w) =
        elim [ zero ↦ λ w h. (a, refl, one ∙ h) | suc i ↦ λ w h. later.each i w h ] in
        subst (AreOperands p f (a ∷ args)) is (record { as_many = ap suc later.as_many; each = each })

-- what an operand that is this local is
local_operand : (p : LinkedProgram) (f : Frame) (a : Arg) (y : ℕ) → arg_var a ≡ Some (var.Local y) → operand_of p f a ≡ local_of f y
local_operand p f (arg.Local x) y e = let same : x ≡ y = cc in ap (local_of f) same
local_operand p f arg.Number y e = cc
local_operand p f arg.Null y e = cc
local_operand p f (arg.Text i) y e = cc
local_operand p f (arg.Class i) y e = cc

-- in a new frame no local is set
pub unset : (n y : ℕ) (value : Value) → if_set (slice_get (replicate n None) y) ≡ Some value → ⊥
unset zero y value e = cc
unset (suc n) zero value e = cc
unset (suc n) (suc y) value e = unset n y value e

module _ (p : LinkedProgram) (well : IsWellLinked p) (point : Point) (m : LinkedMethod) (there : slice_get p.methods point.top.method ≡ Some m)
    (to : Option ℕ) (mode : Mode) (class key : ℕ) (receiver : Option ℕ) (args : List Arg) (targets : List ℕ)
    (here : slice_get m.code point.top.index ≡ Some (code.Call to mode class key receiver args targets))
    (fits : FitsCode p m (code.Call to mode class key receiver args targets)) where
  abbrev call : Code
  call = code.Call to mode class key receiver args targets

  abbrev J : Effect → Type 0
  J = IsExplained p point m call

  -- the receiver of the new frame is that of the call
  record IsReceiver (this : Option Value) : Type 0 where
    pub as_set : is_some this ≡ is_some receiver
    pub each : (value : Value) → this ≡ Some value → (x : ℕ) × (receiver ≡ Some x) × (local_of point.top x ≡ Some value)
    pub back : (x : ℕ) → receiver ≡ Some x → this ≡ local_of point.top x

  -- a target of the call is one of this statement
  same_call : (number : ℕ) (target : HasTarget p point.top.method point.top.index number)
      → (target.receiver ≡ receiver) × (target.args ≡ args) × (target.targets ≡ targets)
  same_call number target =
      let one = target.there in
      let two = there in
      let same : target.method ≡ m = cc in
      let its = code.Call target.to target.mode target.class target.key target.receiver target.args target.targets in
      let call_there : slice_get m.code point.top.index ≡ Some its = subst (λ (m : LinkedMethod). slice_get m.code point.top.index ≡ Some its) same target.call in
      let is = here in
      let first : target.receiver ≡ receiver = cc in
      let second : target.args ≡ args = cc in
      let third : target.targets ≡ targets = cc in
      (first, second, third)

  -- a target suits the call
  suits : (number : ℕ) → Has targets number → SuitsCall p receiver (length args) number
  suits number has =
      let codes = at_all (λ (m : LinkedMethod). All (IsWellLinkedCode p) m.code) p.methods point.top.method m well.codes there in
      let fits = at_all (IsWellLinkedCode p) m.code point.top.index call codes here in
      at_all (SuitsCall p receiver (length args)) targets has.0 number fits.0 has.1

  module _ (number : ℕ) (callee : LinkedMethod) (its : slice_get p.methods number ≡ Some callee) (this : Option Value) (values : List Value)
      (is_receiver : IsReceiver this) (are : AreOperands p point.top args values) where
    abbrev g : Frame
    g = new_frame number callee this values

    -- it has the form of its method
    shaped : Has targets number → IsShaped p g
    shaped has =
        let fit = suits number has in
        let same : fit.method ≡ callee = let one = fit.there in cc in
        let code_there = slice_get-there callee.code 0 (subst (λ (m : LinkedMethod). 0 < length m.code) same fit.has_statements) in
        record {
          method = callee;
          there = its;
          code = code_there.0;
          here = code_there.1;
          stands = tt;
          locals = length-replicate (length callee.locals) None;
          params = are.as_many ∙ sym fit.params ∙ ap (λ (m : LinkedMethod). m.params) same;
          this = is_receiver.as_set ∙ sym fit.has_this ∙ ap (λ (m : LinkedMethod). m.has_this) same;
          thrown = λ e. refl;
          flies = λ e. cc;
        }

    -- what stands for an object that it holds
    from : (to : Slot) (x : ℕ) → slot_of g to ≡ Some (Object x) → IsBy p point m call (λ v. Passes receiver args v (var_of to)) x
    from (slots.Local y) x e = absurd (unset _ y (Object x) e)
    from slots.This x e =
        let r = is_receiver.each (Object x) e in
        record {
          var = var.Local r.0;
          has = subst (λ (o : Option ℕ). IfSome o (IsLocalOf m)) r.1 fits.2;
          stands = by_slot (slots.Local r.0) r.2;
          fact = (r.0, r.1, refl);
        }
    from (slots.Param i) x e =
        let a = are.each i (Object x) e in
        operand p point m call a.0 x (λ v. Passes receiver args v (var.Param i)) (at_all (FitsArg p m) args i a.0 fits.4 a.1) (i, a.1) a.2
        (λ v is_var. (a.0, a.1, is_var))
    from slots.Caught x e = cc (e)
    from slots.Thrown x e = cc (e)

    -- a local that is passed
    passed : (x : ℕ) (position : Slot) (value : Value) → Passes receiver args (var.Local x) (var_of position) → local_of point.top x ≡ Some value
        → slot_of g position ≡ Some value
    passed x slots.This value passes e =
        let locals = passes.2 in
        let same : x ≡ passes.0 = cc (locals) in
        is_receiver.back passes.0 passes.1 ∙ ap (local_of point.top) (sym same) ∙ e
    passed x (slots.Param i) value passes e =
        let many = are.as_many in
        let few = slice_get-below args i passes.0 passes.1 in
        let v = slice_get-there values i (omega (arith, many, few)) in
        let a = are.each i v.0 v.1 in
        let one = passes.1 in
        let two = a.1 in
        let same : a.0 ≡ passes.0 = cc (one, two) in
        v.1 ∙ sym a.2 ∙ ap (operand_of p point.top) same ∙ local_operand p point.top passes.0 x passes.2 ∙ e
    passed x (slots.Local y) value passes e = elim passes [ ]
    passed x slots.Caught value passes e = elim passes [ ]
    passed x slots.Thrown value passes e = elim passes [ ]

    entered : (target : HasTarget p point.top.method point.top.index number) → CanEnter p point m call g target.receiver target.args
    entered target =
        let same = same_call number target in
        let can : CanEnter p point m call g receiver args =
        record {
          begins = (refl, refl);
          shaped = shaped (subst (λ (ts : List ℕ). Has ts number) same.2 target.has);
          from = from;
          passed = passed;
        } in
        subst (λ (r : Option ℕ). CanEnter p point m call g r target.args) (sym same.0)
        (subst (λ (given : List Arg). CanEnter p point m call g receiver given) (sym same.1) can)

  -- a method that is looked up is entered
  enters : (from : ℕ) (this : Option Value) (values : List Value) (offered : List Effect) → IsReceiver this → AreOperands p point.top args values
      → Enters p from key this values offered → AllOf J offered
  enters from this values offered is_receiver are h = elim h [
    | inl f ↦ only J (calls (new_frame f.0 f.1 this values) ∷ []) offered f.3 (λ target. entered f.0 f.1 f.2.there this values is_receiver are target, tt)
    | inr none ↦ not_typed J tt offered none.1
  ]

  -- the same, from a class that must be below one
  enters_below : (from : ℕ) (this : Option Value) (values : List Value) (offered : List Effect) → IsReceiver this → AreOperands p point.top args values
      → EntersBelow p class from key this values offered → AllOf J offered
  enters_below from this values offered is_receiver are h = elim h [
    | inl f ↦ enters from this values offered is_receiver are f.1
    | inr other ↦ not_typed J tt offered other.1
  ]

  -- the same, by the mode
  enters_by : (way : Mode) (object : HeapObject) (this : Option Value) (values : List Value) (offered : List Effect) → IsReceiver this
      → AreOperands p point.top args values
      → EntersBy p way class key object this values offered
      → AllOf J offered
  enters_by Static object this values offered is_receiver are h = enters class this values offered is_receiver are h
  enters_by Special object this values offered is_receiver are h = enters class this values offered is_receiver are h
  enters_by Virtual object this values offered is_receiver are h = enters_below object.class this values offered is_receiver are h
  enters_by Interface object this values offered is_receiver are h = enters_below object.class this values offered is_receiver are h

module _ (p : LinkedProgram) (well : IsWellLinked p) (point : Point) (m : LinkedMethod) (there : slice_get p.methods point.top.method ≡ Some m)
    (to : Option ℕ) (mode : Mode) (class key : ℕ) (args : List Arg) (targets : List ℕ) (offered : List Effect) where
  abbrev call_on : Option ℕ → Code
  call_on receiver = code.Call to mode class key receiver args targets

  abbrev K : Option ℕ → Effect → Type 0
  K receiver = IsExplained p point m (call_on receiver)

  -- what is said of the call
  abbrev Fine : Option ℕ → Type 0 → Type 0
  Fine receiver Offers = slice_get m.code point.top.index ≡ Some (call_on receiver) → FitsCode p m (call_on receiver) → Offers → AllOf (K receiver) offered

  -- on a value
  calls_on : (x : ℕ) (values : List Value) → AreOperands p point.top args values → (value : Value) → local_of point.top x ≡ Some value
      → Fine (Some x) (CallsOn p point mode class key value values offered)
  calls_on x values are (Object o) is here fits h =
      enters_by p well point m there to mode class key (Some x) args targets here fits mode h.0 (Some (Object o)) values offered
      (record { as_set = refl; each = λ v of. (x, refl, is ∙ of); back = λ y of. sym (ap (local_of point.top) (cc (of)) ∙ is) }) are h.2
  calls_on x values are Null is here fits h = only (K (Some x)) (raises 0 ∷ []) offered h ((refl, (x, refl, is)), tt)
  calls_on x values are Number is here fits h = not_typed (K (Some x)) tt offered h

  -- a call, with a receiver or without one
  calls_with : (receiver : Option ℕ) (values : Option (List Value)) → operands_of p point.top args ≡ values
      → Fine receiver (CallsWith p point mode class key receiver values offered)
  calls_with None (Some values) e here fits h =
      enters p well point m there to mode class key None args targets here fits class None values offered
      (record { as_set = refl; each = λ value e. cc (e); back = λ x e. cc (e) }) (operands p point.top args values e) h
  calls_with (Some x) (Some values) e here fits h =
      of_value (K (Some x)) tt (local_of point.top x) (λ value. CallsOn p point mode class key value values) offered
      (λ value is on. calls_on x values (operands p point.top args values e) value is here fits on) h
  calls_with None None e here fits h = not_typed (K None) tt offered h
  calls_with (Some x) None e here fits h = not_typed (K (Some x)) tt offered h

  pub call_row : (receiver : Option ℕ) → Fine receiver (Row p point (call_on receiver) offered)
  call_row receiver here fits h = calls_with receiver (operands_of p point.top args) refl here fits h
