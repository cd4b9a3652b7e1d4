-- What a machine keeps, from step to step.
use Rattle.std.proofs.Common.{slice_get, get_or, ◌≡◌, ◌≢◌, ℕ, ◌+◌, ◌<◌, ◌^◌, List, [], ◌∷◌, ◌++◌, Option, Some, None, IfSome, Bool, true, false, length, refl, sym, ap, ◌∙◌, ◌⊎◌, subst, arith, inl, inr, length-append}
use Rattle.std.proofs.lemmas.List.{length-map}
use Rattle.std.proofs.lemmas.Option.{slice_get-get_or, slice_get-map}
use Rattle.jim_step.specs.declared.frame.Frame.{Frame as KeptFrame}
use Rattle.jim_step.specs.declared.kept.Kept.{Kept}
use Rattle.jim_step.specs.declared.plan.Effect.{Effect as Planned}
use Rattle.jim_step.specs.declared.plan.Effect.TheVariants as planned
use Rattle.jim_step.specs.declared.plan.Plan.{Plan}
use Rattle.jim_step.specs.Frames.{frame_of, frames_of, seen}
use Rattle.jim_step.specs.Keeping.{HasRoom, ending_of, state_in}
use Rattle.jim_step.specs.Leaving.{CanTake, EachCaller, TakesIn}
use Rattle.jim_step.specs.Plans.{called_frame, code_of, listed, meant}
use Rattle.jim_step.specs.Ready.{IsReady, IsReadyAt}
use Rattle.jim_step.specs.Sizes.{IsSmall}
use Rattle.jim_step.proofs.Readies.{here_of}
use Rattle.link_rules.specs.declared.code.Code.{Code}
use Rattle.link_rules.specs.declared.code.Code.TheVariants.{Call}
use Rattle.link_rules.specs.Linked.{LinkedMethod, LinkedProgram}
use Rattle.link_rules.specs.WellLinked.{FitsCode, FitsMethod, IsInForm}
use Rattle.step_rules.specs.declared.parts.Moved.{Moved}
use Rattle.step_rules.specs.declared.parts.Moved.TheVariants as moved
use Rattle.step_rules.specs.declared.parts.Value.{Value}
use Rattle.step_rules.specs.declared.parts.Value.TheVariants.{Null, Number, Object}
use Rattle.jim_ast.specs.declared.syntax.Mode.{Mode}
use Rattle.step_rules.specs.Effects.{Effect}
use Rattle.step_rules.specs.Offers.{CallsWith, Offers, OffersBy, Row, UnwindsAt}
use Rattle.step_rules.specs.Slots.{operands_of, slot_of}
use Rattle.step_rules.specs.Shapes.{EachOf, FitsFrame, FitsPoint, FitsSlot, HasShape, HasShapeBy, IsCall, IsKnown, Waits}
use Rattle.step_rules.specs.States.{Ending, Frame, HeapObject, Point, State, ended, ill_typed, running, state_of, uncaught, catches, gets, goes_on, goes_to, throws, under, written}
use Rattle.step_rules.specs.Steps.{Becomes, Choices, HasChoice, Receives, ReceivesAt, made, nested, raised, with_object, with_static}
use Rattle.step_rules.specs.declared.parts.Slot.{Slot}
use Rattle.step_rules.proofs.Determined.{below_choices}
use Rattle.step_rules.proofs.Going.{point_goes}
use Rattle.step_rules.proofs.Shaping.{frames_fit}
use Rattle.step_rules.proofs.Listing.{at_all, each_last, last_same, same_place}

-- a state with the shape has ended, or goes on from a point
pub ended_or_on : (p : LinkedProgram) (s : State) → HasShape p s
    → ((s.ending ≢ running) × (s.frames ≡ [])) ⊎ ((at : Point) × (s ≡ state_of at) × FitsPoint p at)
ended_or_on p s shape = by s.ending refl shape where
  by : (e : Ending) → s.ending ≡ e → HasShapeBy e p s → ((s.ending ≢ running) × (s.frames ≡ [])) ⊎ ((at : Point) × (s ≡ state_of at) × FitsPoint p at)
  by running e h = inr h
  by ended e h = inl (λ r. cc (e, r), h)
  by (uncaught o) e h = inl (λ r. cc (e, r), h.0)
  by ill_typed e h = inl (λ r. cc (e, r), h)

-- what is offered at a point doesn't depend on the frames that wait
module _ (p : LinkedProgram) (below : List Frame) (top : Frame) (heap : List HeapObject) (statics : List Value) (offered : List Effect) where
  abbrev whole : Point
  whole = record { below = below; top = top; heap = heap; statics = statics }

  calls_at : (mode : Mode) (class key : ℕ) (receiver : Option ℕ) (args : Option (List Value))
      → CallsWith p (seen top heap statics) mode class key receiver args offered → CallsWith p whole mode class key receiver args offered
  calls_at mode class key None (Some args) h = h
  calls_at mode class key (Some receiver) (Some args) h = h
  calls_at mode class key receiver None h = h

  row_at : (code : Code) → Row p (seen top heap statics) code offered → Row p whole code offered
  row_at (Call to mode class key receiver args targets) h = calls_at mode class key receiver (operands_of p top args) h
  row_at _ h = h

  unwinds_at : (thrown : Option Value) → UnwindsAt p (seen top heap statics) thrown offered → UnwindsAt p whole thrown offered
  unwinds_at (Some (Object o)) h = h
  unwinds_at (Some Null) h = h
  unwinds_at (Some Number) h = h
  unwinds_at None h = h

  offers_by : (raised : Bool) → OffersBy raised p (seen top heap statics) offered → OffersBy raised p whole offered
  offers_by false h = record { code = h.code; at = h.at; is_so = row_at h.code h.is_so }
  offers_by true h = unwinds_at top.thrown h

  pub offers_at : Offers p (seen top heap statics) offered → Offers p whole offered
  offers_at h = offers_by top.raised h

-- a point seen without the frames that wait fits too
pub seen_fits : (p : LinkedProgram) (at : Point) → FitsPoint p at → FitsPoint p (seen at.top at.heap at.statics)
seen_fits p at h = record {
  constants = h.constants;
  objects = h.objects;
  as_many = h.as_many;
  statics = h.statics;
  below = λ i x e. cc;
  waits = λ i x e. cc;
  top = h.top;
}

module _ (p : LinkedProgram) (form : IsInForm p) (small : IsSmall p) where
  pub ready_at : (at : Point) → FitsPoint p at → IsReadyAt p at.top
  ready_at at fits code e =
      let h = here_of p at form small fits in
      let is : code_of p at.top ≡ Some h.code = rw h.there h.here in
      let same : h.code ≡ code = cc (e, is) in subst (IsReady p) same h.is_ready

  takes_in : (f : Frame) (m : LinkedMethod) (code : Code) → length f.locals ≡ length m.locals → FitsCode p m code → IsCall code → TakesIn f code
  takes_in f m (Call to mode class key receiver args targets) counted fits call = by to fits.0 where
    by : (to : Option ℕ) → IfSome to (λ x. x < length m.locals) → IfSome to (λ x. x < length f.locals)
    by (Some x) h = omega (arith, counted, h)
    by None h = tt
  takes_in f m _ counted fits call = absurd call

  pub can_take : (n : ℕ) (f : Frame) → FitsFrame p n f → Waits p f → CanTake p f
  can_take n f fits waits =
      let at = waits.1.at in
      let same : fits.method ≡ at.method = same_place p.methods f.method fits.method at.method fits.there at.there in
      let counted = ap (λ (m : LinkedMethod). length m.locals) same in
      let sized = ap (λ (m : LinkedMethod). length m.code) same in
      let in_form = at_all (FitsMethod p) p.methods f.method at.method form.methods at.there in (
        record {
          code = waits.1.code;
          at = at;
          is_so = takes_in f at.method waits.1.code (fits.locals ∙ counted)
              (at_all (FitsCode p at.method) at.method.code f.index waits.1.code in_form.codes at.here) waits.1.is_so;
        },
        omega (arith, fits.within, (small.methods f.method fits.method fits.there).0),
      )

  pub callers_can : (ks : List KeptFrame) (at : Point) → frames_of ks ≡ at.below ++ at.top ∷ [] → FitsPoint p at → EachCaller (CanTake p) ks
  callers_can ks at e fits below caller top k =
      let same = (last_same (below ++ caller ∷ []) at.below top at.top (sym k ∙ e)).0 in
      can_take (length at.heap) caller
      (each_last (FitsFrame p (length at.heap)) below caller (subst (λ l. EachOf (FitsFrame p (length at.heap)) l) (sym same) fits.below))
      (each_last (Waits p) below caller (subst (λ l. EachOf (Waits p) l) (sym same) fits.waits))

-- how many frames are kept
pub counted_frames : (ks : List KeptFrame) (at : Point) → frames_of ks ≡ at.below ++ at.top ∷ [] → length ks ≡ length at.below + 1
counted_frames ks at e = omega (arith, length-map ks frame_of, ap length e, length-append at.below (at.top ∷ []))

-- a step adds a frame where there is room for it
module _ (p : LinkedProgram) (at : Point) (new : State) (few : length at.below + 1 < 2 ^ 32) where
  same_depth : (next : Point) → length next.below ≡ length at.below → new ≡ state_of next → length new.frames < 2 ^ 32
  same_depth next same e = omega (arith, few, same, ap (λ (s : State). length s.frames) e, length-append next.below (next.top ∷ []))

  no_depth : new.frames ≡ [] → length new.frames < 2 ^ 32
  no_depth e = omega (arith, ap length e)

  less_depth : (below : List Frame) (caller : Frame) (next : Point) → at.below ≡ below ++ caller ∷ [] → next.below ≡ below → new ≡ state_of next
      → length new.frames < 2 ^ 32
  less_depth below caller next whole same e = omega (
    arith,
    few,
    ap length whole,
    ap length same,
    ap (λ (s : State). length s.frames) e,
    length-append next.below (next.top ∷ []),
    length-append below (caller ∷ []),
  )

  -- the depth after a step
  pub depth_after : (e : Planned) (kept : Kept) → length kept.frames.items ≡ length at.below + 1 → HasRoom e kept → Becomes p at (meant p at.top e) new
      → length new.frames < 2 ^ 32
  depth_after planned.IllTyped kept counted room w = no_depth (ap (λ (s : State). s.frames) w)
  depth_after (planned.Raises kind) kept counted room w = same_depth (raised kind w.0 at) refl w.2
  depth_after (planned.Throws o) kept counted room w = same_depth (throws o at) refl w
  depth_after (planned.Goes index) kept counted room w = same_depth (goes_to index at) refl w
  depth_after (planned.Gets to value) kept counted room w = same_depth (gets to value at) refl w
  depth_after (planned.Makes to class) kept counted room w = same_depth (made to class at) refl w
  depth_after (planned.Nests to o inner class) kept counted room w = same_depth (nested to o w.0 inner class at) refl w.2
  depth_after (planned.Writes o field value) kept counted room w = same_depth (goes_on (with_object o (written w.0 field value) at)) refl w.2
  depth_after (planned.Sets field value) kept counted room w = same_depth (goes_on (with_static field value at)) refl w
  depth_after (planned.Calls number this) kept counted room w =
      let e = ap (λ (s : State). length s.frames) w in
      omega (arith, room, counted, e, length-append (at.below ++ at.top ∷ []) (called_frame p at.top number this ∷ []), length-append at.below (at.top ∷ []))
  depth_after (planned.Returns value) kept counted room w = elim w [
    | inl a ↦ no_depth (ap (λ (s : State). s.frames) a.1)
    | inr b ↦ received b.0 b.1 value b.3.code b.2 b.3.is_so
  ] where
    received : (below : List Frame) (caller : Frame) (value : Option Value) (code : Code) → at.below ≡ below ++ caller ∷ []
        → ReceivesAt code value (under below caller at) new → length new.frames < 2 ^ 32
    received below caller value (Call to mode class key receiver args targets) split w = by to value w where
      by : (to : Option ℕ) (value : Option Value) → Receives to value (under below caller at) new → length new.frames < 2 ^ 32
      by None value e = less_depth below caller (goes_on (under below caller at)) split refl e
      by (Some to) (Some v) e = less_depth below caller (gets to v (under below caller at)) split refl e
      by (Some to) None e = no_depth (ap (λ (s : State). s.frames) e)
    received below caller value _ split w = absurd w
  depth_after (planned.Handles index o) kept counted room w = same_depth (catches index o at) refl w
  depth_after (planned.Leaves o) kept counted room w = elim w [
    | inl a ↦ no_depth (ap (λ (s : State). s.frames) a.1)
    | inr b ↦ less_depth b.0 b.1 (throws o (under b.0 b.1 at)) b.2 refl b.3
  ]

-- what a plan lists is offered at the point that is kept
pub offers_of : (p : LinkedProgram) (at : Point) (top : Frame) (heap : List HeapObject) (statics : List Value) (plan : Plan) → top ≡ at.top → heap ≡ at.heap
    → statics ≡ at.statics → Offers p (seen top heap statics) (listed p top plan) → Offers p at (listed p at.top plan)
offers_of p at top heap statics plan same_top same_heap same_statics h =
    offers_at p at.below at.top at.heap at.statics (listed p at.top plan) (moved at.top at.heap at.statics same_top same_heap same_statics h) where
      moved : (t : Frame) (g : List HeapObject) (s : List Value) → top ≡ t → heap ≡ g → statics ≡ s → Offers p (seen top heap statics) (listed p top plan)
          → Offers p (seen t g s) (listed p t plan)
      moved t g s a b c k = subst (λ x. Offers p (seen t g x) (listed p t plan)) c
          (subst (λ x. Offers p (seen t x statics) (listed p t plan)) b (subst (λ x. Offers p (seen x heap statics) (listed p x plan)) a k))

module _ (p : LinkedProgram) (kept : Kept) (shape : HasShape p (state_in kept)) where
  -- where a frame is kept, the run goes on
  pub going : 0 < length kept.frames.items → (at : Point) × (state_in kept ≡ state_of at) × FitsPoint p at
  going some = elim (ended_or_on p (state_in kept) shape) [
    | inl a ↦ let none : length kept.frames.items ≡ 0 = sym (length-map kept.frames.items frame_of) ∙ ap length a.1 in absurd (omega (arith, some, none))
    | inr b ↦ b
  ]

  -- where a step has a choice, a frame is kept
  pub some_frames : (choice : ℕ) → ((count : ℕ) → Choices p (state_in kept) count → choice < count) → 0 < length kept.frames.items
  some_frames choice below = elim (ended_or_on p (state_in kept) shape) [
    | inl a ↦ let none : choice < 0 = below 0 (inl (a.0, refl)) in absurd (omega (arith, none))
    | inr b ↦ omega (arith, counted_frames kept.frames.items b.0 (ap (λ (s : State). s.frames) b.1))
  ]

  -- a run that goes on has a first choice
  pub goes_on_by : IsInForm p → (state_in kept).ending ≡ running → HasChoice p (state_in kept) 0
  goes_on_by form is = elim (ended_or_on p (state_in kept) shape) [
    | inl a ↦ absurd (a.0 is)
    | inr b ↦ let steps = point_goes p b.0 form b.2 (state_in kept) b.1 in (steps.count, inr steps.choices, steps.not_none)
  ]

  -- where a step has a first choice, the run goes on
  pub going_at : IsInForm p → HasChoice p (state_in kept) 0 → (at : Point) × (state_in kept ≡ state_of at) × FitsPoint p at
  going_at form some = going (some_frames 0 (below_choices p (state_in kept) 0 form some))

-- as many choices as the plan lists
pub choices_of : (p : LinkedProgram) (s : State) (at : Point) (plan : Plan) (count : ℕ) → s ≡ state_of at → Offers p at (listed p at.top plan)
    → count ≡ length (listed p at.top plan) → Choices p s count
choices_of p s at plan count stands offers e =
    inr (record { at = at; stands = stands; offered = listed p at.top plan; offers = offers; as_many = e })

-- an exception that nothing caught is an object of the heap
pub known_moved : (p : LinkedProgram) (kept : Kept) → HasShape p (state_in kept) → IsKnown (length kept.heap) kept.moved
known_moved p kept shape = by kept.moved shape where
  by : (m : Moved) → HasShapeBy (ending_of m) p (state_in kept) → IsKnown (length kept.heap) m
  by moved.Went h = tt
  by moved.Ended h = tt
  by (moved.Uncaught o) h = h.1
  by moved.IllTyped h = tt

-- what a kept frame holds are objects of the heap
pub kept_holds : (p : LinkedProgram) (kept : Kept) (i : ℕ) (k : KeptFrame) → HasShape p (state_in kept) → i < length kept.frames.items
    → k ≡ get_or kept.frames.items i k → (s : Slot) → FitsSlot (length kept.heap) (slot_of (frame_of k) s)
kept_holds p kept i k shape below is s =
    let there : slice_get kept.frames.items i ≡ Some k = slice_get-get_or kept.frames.items i k below ∙ ap Some (sym is) in
    let there_too : slice_get (frames_of kept.frames.items) i ≡ Some (frame_of k) = slice_get-map frame_of kept.frames.items i ∙ rw there refl in
    (frames_fit p (state_in kept) shape i (frame_of k) there_too).holds s
