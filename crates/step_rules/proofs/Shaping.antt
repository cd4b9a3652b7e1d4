-- A step leads from a state that has the shape to one that has it.
use Rattle.std.proofs.Common.{◌≡◌, ◌≢◌, ℕ, ◌+◌, ◌<◌, ◌≤◌, List, [], ◌∷◌, ◌++◌, Option, Some, None, true, false, IfSome, eqb, length, slice_get, refl, sym, ap, ◌∙◌, ◌⊎◌, subst, arith, inl, inr, length-append, length-set}
use Rattle.std.specs.List.{slice_set}
use Rattle.std.proofs.lemmas.Bool.Decides.{eqb_tells}
use Rattle.lists.proofs.Places.{slice_get-below, slice_get-set_other, slice_get-set_same, slice_get-there}
use Rattle.link_rules.specs.declared.code.Code.{Code}
use Rattle.link_rules.specs.declared.code.Code.TheVariants.{Call}
use Rattle.link_rules.specs.Linked.{LinkedMethod, LinkedProgram}
use Rattle.link_rules.specs.WellLinked.{FitsCode, FitsMethod, IsInForm}
use Rattle.link_sites.specs.declared.site.Site.TheVariants as site
use Rattle.link_sites.specs.Places.{CodeAt}
use Rattle.step_rules.specs.declared.parts.Slot.{Slot}
use Rattle.step_rules.specs.declared.parts.Slot.TheVariants as slot
use Rattle.step_rules.specs.declared.parts.Value.{Value}
use Rattle.step_rules.specs.declared.parts.Value.TheVariants.{Object}
use Rattle.step_rules.specs.Effects.{Effect}
use Rattle.step_rules.specs.Effects as effect
use Rattle.step_rules.specs.Shapes.{EachOf, FitsEffect, FitsFrame, FitsObject, FitsPoint, FitsSlot, FitsValue, GoesIn, HasShape, HasShapeBy, Waits}
use Rattle.step_rules.specs.Slots.{if_set, slot_of}
use Rattle.step_rules.specs.States.{Ending, Frame, HeapObject, Point, State, ended, ill_typed, running, uncaught, allocates, catches, enters, gets, goes_on, goes_to, new_object, place_of, state_of, throws, under, written}
use Rattle.step_rules.specs.Steps.{Becomes, Receives, ReceivesAt, Step, made, nested, raised, with_object, with_static}
use Rattle.step_rules.proofs.Fitting.{frame_more, new_fits, object_more, value_more, written_fits}
use Rattle.step_rules.proofs.Listing.{at_all, each_before, each_last, each_none, each_push, each_set, last_same, same_place}
use Rattle.step_rules.proofs.Offering.{class_within, offers_fit}

-- a statement is within its method
within_of : (p : LinkedProgram) (number index : ℕ) (m : LinkedMethod) → slice_get p.methods number ≡ Some m → GoesIn p number index → index < length m.code
within_of p number index m there g =
    let same : g.at.method ≡ m = same_place p.methods number g.at.method m g.at.there there in
    let counted = ap (λ (k : LinkedMethod). length k.code) same in
    omega (arith, counted, slice_get-below g.at.method.code index g.code g.at.here)

module _ (p : LinkedProgram) (n : ℕ) where
  frame_goes : (f : Frame) (index : ℕ) → FitsFrame p n f → GoesIn p f.method index → FitsFrame p n (record f { index = index })
  frame_goes f index h g = record {
    method = h.method;
    there = h.there;
    within = within_of p f.method index h.method h.there g;
    locals = h.locals;
    holds = h.holds;
    flight = h.flight;
  }

  frame_gets : (f : Frame) (index to : ℕ) (v : Value) → FitsFrame p n f → GoesIn p f.method index → to < length f.locals → FitsValue n v
      → FitsFrame p n (record f { index = index; locals = slice_set f.locals to (Some v) })
  frame_gets f index to v h g local fits = record {
    method = h.method;
    there = h.there;
    within = within_of p f.method index h.method h.there g;
    locals = length-set f.locals to (Some v) ∙ h.locals;
    holds = holds;
    flight = h.flight;
  } where
    at : (x : ℕ) → ((eqb x to ≡ true) × (x ≡ to)) ⊎ ((eqb x to ≡ false) × (x ≢ to)) → FitsSlot n (if_set (slice_get (slice_set f.locals to (Some v)) x))
    at x (inl e) = rw (e.1, slice_get-set_same f.locals to (Some v) local) fits
    at x (inr e) = rw (slice_get-set_other f.locals to x (Some v) e.1) (h.holds (slot.Local x))

    holds : (s : Slot) → FitsSlot n (slot_of (record f { index = index; locals = slice_set f.locals to (Some v) }) s)
    holds (slot.Local x) = at x (eqb_tells x to)
    holds slot.This = h.holds slot.This
    holds (slot.Param i) = h.holds (slot.Param i)
    holds slot.Caught = h.holds slot.Caught
    holds slot.Thrown = h.holds slot.Thrown

  frame_throws : (f : Frame) (o : ℕ) → FitsFrame p n f → o < n → FitsFrame p n (record f { raised = true; thrown = Some (Object o) })
  frame_throws f o h below = record { method = h.method; there = h.there; within = h.within; locals = h.locals; holds = holds; flight = tt } where
    holds : (s : Slot) → FitsSlot n (slot_of (record f { raised = true; thrown = Some (Object o) }) s)
    holds (slot.Local x) = h.holds (slot.Local x)
    holds slot.This = h.holds slot.This
    holds (slot.Param i) = h.holds (slot.Param i)
    holds slot.Caught = h.holds slot.Caught
    holds slot.Thrown = below

  frame_catches : (f : Frame) (index o : ℕ) → FitsFrame p n f → GoesIn p f.method index → o < n
      → FitsFrame p n (record f { index = index; raised = false; caught = Some (Object o); thrown = None })
  frame_catches f index o h g below =
      record { method = h.method; there = h.there; within = within_of p f.method index h.method h.there g; locals = h.locals; holds = holds; flight = tt } where
        holds : (s : Slot) → FitsSlot n (slot_of (record f { index = index; raised = false; caught = Some (Object o); thrown = None }) s)
        holds (slot.Local x) = h.holds (slot.Local x)
        holds slot.This = h.holds slot.This
        holds (slot.Param i) = h.holds (slot.Param i)
        holds slot.Caught = below
        holds slot.Thrown = tt

module _ (p : LinkedProgram) where
  -- another top frame
  with_top : (at : Point) (f : Frame) → FitsPoint p at → FitsFrame p (length at.heap) f → FitsPoint p (record at { top = f })
  with_top at f h top = record {
    constants = h.constants;
    objects = h.objects;
    as_many = h.as_many;
    statics = h.statics;
    below = h.below;
    waits = h.waits;
    top = top;
  }

  -- a larger heap
  with_more : (at : Point) (object : HeapObject) → FitsPoint p at → FitsObject p (length at.heap + 1) object → FitsPoint p (allocates object at)
  with_more at object h fits =
      let more : length at.heap ≤ length (at.heap ++ object ∷ []) = omega (arith, length-append at.heap (object ∷ [])) in
      let counted : length at.heap + 1 ≡ length (at.heap ++ object ∷ []) = omega (arith, length-append at.heap (object ∷ [])) in
      record {
        constants = omega (arith, h.constants, more);
        objects = each_push (FitsObject p (length (at.heap ++ object ∷ []))) at.heap object
            (λ i x e. object_more p (length at.heap) (length (at.heap ++ object ∷ [])) more x (h.objects i x e))
            (subst (λ k. FitsObject p k object) counted fits);
        as_many = h.as_many;
        statics = λ i x e. value_more (length at.heap) (length (at.heap ++ object ∷ [])) more x (h.statics i x e);
        below = λ i x e. frame_more p (length at.heap) (length (at.heap ++ object ∷ [])) more x (h.below i x e);
        waits = h.waits;
        top = frame_more p (length at.heap) (length (at.heap ++ object ∷ [])) more at.top h.top;
      }

  -- a new object
  with_new : (at : Point) (object : HeapObject) (class : ℕ) → FitsPoint p at → object.class ≡ class → object.writes ≡ [] → class < length p.classes
      → FitsPoint p (allocates object at)
  with_new at object class h is none below = with_more at object h (new_fits p (length at.heap + 1) class object is none below)

  is_new : (heap : List HeapObject) (object : HeapObject) → length heap < length (heap ++ object ∷ [])
  is_new heap object = omega (arith, length-append heap (object ∷ []))

  -- an object is replaced
  with_other : (at : Point) (o : ℕ) (object : HeapObject) → FitsPoint p at → FitsObject p (length at.heap) object → FitsPoint p (with_object o object at)
  with_other at o object h fits =
      let same : length at.heap ≡ length (slice_set at.heap o object) = sym (length-set at.heap o object) in
      record {
        constants = omega (arith, h.constants, same);
        objects = subst (λ k. EachOf (FitsObject p k) (slice_set at.heap o object)) same (each_set (FitsObject p (length at.heap)) at.heap o object h.objects fits);
        as_many = h.as_many;
        statics = subst (λ k. EachOf (FitsValue k) at.statics) same h.statics;
        below = subst (λ k. EachOf (FitsFrame p k) at.below) same h.below;
        waits = h.waits;
        top = subst (λ k. FitsFrame p k at.top) same h.top;
      }

  with_field : (at : Point) (field : ℕ) (v : Value) → FitsPoint p at → FitsValue (length at.heap) v → FitsPoint p (with_static field v at)
  with_field at field v h fits = record {
    constants = h.constants;
    objects = h.objects;
    as_many = length-set at.statics field v ∙ h.as_many;
    statics = each_set (FitsValue (length at.heap)) at.statics field v h.statics fits;
    below = h.below;
    waits = h.waits;
    top = h.top;
  }

  with_frame : (at : Point) (f : Frame) → FitsPoint p at → Waits p at.top → FitsFrame p (length at.heap) f → FitsPoint p (enters f at)
  with_frame at f h waits fits = record {
    constants = h.constants;
    objects = h.objects;
    as_many = h.as_many;
    statics = h.statics;
    below = each_push (FitsFrame p (length at.heap)) at.below at.top h.below h.top;
    waits = each_push (Waits p) at.below at.top h.waits waits;
    top = fits;
  }

  -- the caller is the top frame
  with_caller : (at : Point) (below : List Frame) (caller : Frame) → FitsPoint p at → at.below ≡ below ++ caller ∷ [] → FitsPoint p (under below caller at)
  with_caller at below caller h e =
      let all = subst (λ l. EachOf (FitsFrame p (length at.heap)) l) e h.below in
      let waiting = subst (λ l. EachOf (Waits p) l) e h.waits in
      record {
        constants = h.constants;
        objects = h.objects;
        as_many = h.as_many;
        statics = h.statics;
        below = each_before (FitsFrame p (length at.heap)) below caller all;
        waits = each_before (Waits p) below caller waiting;
        top = each_last (FitsFrame p (length at.heap)) below caller all;
      }

  -- a state with a point that fits has the shape
  shape_of : (at : Point) (new : State) → FitsPoint p at → new ≡ state_of at → HasShape p new
  shape_of at new h e = subst (HasShape p) (sym e) (at, refl, h)

  -- the point of a state that has the shape fits
  pub point_of : (at : Point) → HasShape p (state_of at) → FitsPoint p at
  point_of at h =
      let frames : at.below ++ at.top ∷ [] ≡ h.0.below ++ h.0.top ∷ [] = ap (λ (s : State). s.frames) h.1 in
      let parts = last_same at.below h.0.below at.top h.0.top frames in
      let same : at ≡ h.0 = same_point at.below h.0.below at.top h.0.top at.heap h.0.heap at.statics h.0.statics parts.0 parts.1
      (ap (λ (s : State). s.heap) h.1) (ap (λ (s : State). s.statics) h.1) in
      subst (FitsPoint p) (sym same) h.2
    where
      same_point : (b c : List Frame) (t u : Frame) (g h : List HeapObject) (s r : List Value) → b ≡ c → t ≡ u → g ≡ h → s ≡ r
          → ◌≡◌ {A = Point} (record { below = b; top = t; heap = g; statics = s }) (record { below = c; top = u; heap = h; statics = r })
      same_point b c t u g h s r p q v w = rw (p, q, v, w) refl

  module _ (form : IsInForm p) where
    received : (at : Point) (new : State) (value : Option Value) (code : Code) → CodeAt p at.top.method at.top.index code → FitsPoint p at
        → FitsSlot (length at.heap) value → ReceivesAt code value at new → HasShape p new
    received at new value (Call to mode class key receiver args targets) here h fits w = by to value fits_to fits w where
      in_form : FitsMethod p here.method
      in_form = at_all (FitsMethod p) p.methods at.top.method here.method form.methods here.there

      fits_to : IfSome to (λ x. x < length here.method.locals)
      fits_to = (at_all (FitsCode p here.method) here.method.code at.top.index (Call to mode class key receiver args targets) in_form.codes here.here).0

      next : GoesIn p at.top.method (at.top.index + 1)
      next = let below = in_form.stays at.top.index (at.top.index + 1) (Call to mode class key receiver args targets) here.here refl in
          let c = slice_get-there here.method.code (at.top.index + 1) below in
          record { code = c.0; at = record { method = here.method; there = here.there; here = c.1 }; is_so = tt }

      local : (x : ℕ) → x < length here.method.locals → x < length at.top.locals
      local x k = let same : h.top.method ≡ here.method = same_place p.methods at.top.method h.top.method here.method h.top.there here.there in
          let counted = ap (λ (l : LinkedMethod). length l.locals) same in omega (arith, h.top.locals, counted, k)

      by : (to : Option ℕ) (value : Option Value) → IfSome to (λ x. x < length here.method.locals) → FitsSlot (length at.heap) value → Receives to value at new
          → HasShape p new
      by None value k f e = shape_of (goes_on at) new (with_top at (record at.top { index = at.top.index + 1 }) h (frame_goes p (length at.heap) at.top (at.top.index + 1) h.top next)) e
      by (Some to) (Some v) k f e = shape_of (gets to v at) new
          (with_top at (record at.top { index = at.top.index + 1; locals = slice_set at.top.locals to (Some v) }) h
          (frame_gets p (length at.heap) at.top (at.top.index + 1) to v h.top next (local to k) f)) e
      by (Some to) None k f e = subst (HasShape p) (sym e) refl
    received at new value _ here h fits w = absurd w

    -- an effect that fits leads to a state with the shape
    pub becomes_fit : (at : Point) (e : Effect) (new : State) → FitsPoint p at → FitsEffect p at e → Becomes p at e new → HasShape p new
    becomes_fit at effect.is_ill_typed new h f w = subst (HasShape p) (sym w) refl
    becomes_fit at (effect.raises kind) new h f w =
        let object : HeapObject = new_object (site.Raised (place_of at.top) kind) w.0 in
        let grown = with_new at object w.0 h refl refl (class_within p w.1.0 w.0 w.1.2) in
        shape_of (raised kind w.0 at) new
        (with_top (allocates object at) (record at.top { raised = true; thrown = Some (Object (length at.heap)) }) grown
        (frame_throws p (length (at.heap ++ object ∷ [])) at.top (length at.heap) grown.top (is_new at.heap object))) w.2
    becomes_fit at (effect.throws o) new h f w = shape_of (throws o at) new (with_top at _ h (frame_throws p (length at.heap) at.top o h.top f)) w
    becomes_fit at (effect.goes index) new h f w = shape_of (goes_to index at) new (with_top at _ h (frame_goes p (length at.heap) at.top index h.top f)) w
    becomes_fit at (effect.gets to v) new h f w =
        shape_of (gets to v at) new (with_top at _ h (frame_gets p (length at.heap) at.top (at.top.index + 1) to v h.top f.0 f.1 f.2)) w
    becomes_fit at (effect.makes to class) new h f w =
        let object : HeapObject = new_object (site.New (place_of at.top)) class in
        let grown = with_new at object class h refl refl f.2 in
        shape_of (made to class at) new
        (with_top (allocates object at) (record at.top { index = at.top.index + 1; locals = slice_set at.top.locals to (Some (Object (length at.heap))) }) grown
        (frame_gets p (length (at.heap ++ object ∷ [])) at.top (at.top.index + 1) to (Object (length at.heap)) grown.top f.0 f.1 (is_new at.heap object))) w
    becomes_fit at (effect.nests to o inner class) new h f w =
        let object : HeapObject = new_object inner class in
        let grown = with_new at object class h refl refl f.3 in
        let more : length at.heap ≤ length (at.heap ++ object ∷ []) = omega (arith, is_new at.heap object) in
        let outer = object_more p (length at.heap) (length (at.heap ++ object ∷ [])) more w.0 (h.objects o w.0 w.1) in
        let held = written w.0 0 (Object (length at.heap)) in
        let other = with_other (allocates object at) o held grown
        (written_fits p (length (at.heap ++ object ∷ [])) w.0 0 (Object (length at.heap)) outer (is_new at.heap object)) in
        let count : length (slice_set (at.heap ++ object ∷ []) o held) ≡ length (at.heap ++ object ∷ []) = length-set (at.heap ++ object ∷ []) o held in
        shape_of (nested to o w.0 inner class at) new
        (with_top (with_object o held (allocates object at)) (record at.top { index = at.top.index + 1; locals = slice_set at.top.locals to (Some (Object (length at.heap))) }) other
        (frame_gets p (length (slice_set (at.heap ++ object ∷ []) o held)) at.top (at.top.index + 1) to (Object (length at.heap)) other.top f.0 f.1
        (omega (arith, count, is_new at.heap object)))) w.2
    becomes_fit at (effect.writes o field v) new h f w =
        let other = with_other at o (written w.0 field v) h (written_fits p (length at.heap) w.0 field v (h.objects o w.0 w.1) f.2) in
        shape_of (goes_on (with_object o (written w.0 field v) at)) new
        (with_top (with_object o (written w.0 field v) at) _ other
        (frame_goes p (length (slice_set at.heap o (written w.0 field v))) at.top (at.top.index + 1) other.top f.0)) w.2
    becomes_fit at (effect.sets field v) new h f w =
        let other = with_field at field v h f.2 in
        shape_of (goes_on (with_static field v at)) new (with_top (with_static field v at) _ other (frame_goes p (length at.heap) at.top (at.top.index + 1) h.top f.0)) w
    becomes_fit at (effect.calls frame) new h f w = shape_of (enters frame at) new (with_frame at frame h f.0 f.1) w
    becomes_fit at (effect.returns value) new h f w = elim w [
      | inl a ↦ subst (HasShape p) (sym a.1) refl
      | inr b ↦ received (under b.0 b.1 at) new value b.3.code b.3.at (with_caller at b.0 b.1 h b.2) f b.3.is_so
    ]
    becomes_fit at (effect.handles index o) new h f w =
        shape_of (catches index o at) new (with_top at _ h (frame_catches p (length at.heap) at.top index o h.top f.0 f.1)) w
    becomes_fit at (effect.leaves o) new h f w = elim w [
      | inl a ↦ subst (HasShape p) (sym a.1) (refl, f)
      | inr b ↦ let caller = with_caller at b.0 b.1 h b.2 in
          shape_of (throws o (under b.0 b.1 at)) new (with_top (under b.0 b.1 at) _ caller (frame_throws p (length at.heap) b.1 o caller.top f)) b.3
    ]

    -- a step keeps the shape
    pub step_fits : (old : State) (choice : ℕ) (new : State) → HasShape p old → Step p old choice new → HasShape p new
    step_fits old choice new h step = becomes_fit step.at step.effect new here
        (offers_fit p step.at form here step.offered step.offers choice step.effect step.chosen) step.becomes where
          here : FitsPoint p step.at
          here = point_of step.at (subst (HasShape p) step.stands h)

-- the frames of a state that has the shape hold objects of its heap
pub frames_fit : (p : LinkedProgram) (s : State) → HasShape p s → EachOf (FitsFrame p (length s.heap)) s.frames
frames_fit p s shape = by s.ending shape where
  none : s.frames ≡ [] → EachOf (FitsFrame p (length s.heap)) s.frames
  none e = rw e (each_none (FitsFrame p (length s.heap)))

  by : (e : Ending) → HasShapeBy e p s → EachOf (FitsFrame p (length s.heap)) s.frames
  by running h = rw h.1 (each_push (FitsFrame p (length h.0.heap)) h.0.below h.0.top h.2.below h.2.top)
  by ended h = none h
  by (uncaught o) h = none h.0
  by ill_typed h = none h
