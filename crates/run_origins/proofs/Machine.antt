-- Each step of each run has its origins: what explains its effect, as the law states it.
use Rattle.std.proofs.Common.{◌≡◌, ℕ, ◌+◌, ◌++◌, ◌<◌, Option, Some, Bool, true, false, List, [], ◌∷◌, slice_get, refl, sym, ap, ◌∙◌, subst, inl, inr}
use Rattle.std.specs.List.{slice_set}
use Rattle.std.proofs.lemmas.Option.{same_Some}
use Rattle.lists.proofs.Places.{slice_get-append_left, slice_get-set_same}
use Rattle.link_rules.specs.declared.code.Code.{Code}
use Rattle.link_rules.specs.declared.code.Code.TheVariants as code
use Rattle.link_rules.specs.Flow.{MayRaise}
use Rattle.link_rules.specs.Linked.{LinkedProgram}
use Rattle.link_rules.specs.WellLinked.{FitsMethod, HasTarget, IsWellLinked}
use Rattle.link_sites.specs.Places.{before, in_flight}
use Rattle.run_covers.specs.Covers.{IsCovered}
use Rattle.spds_rules.specs.declared.node.Node.{Node}
use Rattle.spds_rules.specs.declared.node.Var.{Var}
use Rattle.spds_rules.specs.declared.reach.Reach.{Reach}
use Rattle.spds_rules.specs.Demand.{Asked}
use Rattle.spds_rules.specs.Edges.{AssignsTo}
use Rattle.step_rules.specs.declared.parts.Slot.{Slot}
use Rattle.step_rules.specs.declared.parts.Value.{Value}
use Rattle.step_rules.specs.declared.parts.Value.TheVariants.{Object}
use Rattle.step_rules.specs.Effects as effect
use Rattle.step_rules.specs.Effects.{Effect, calls}
use Rattle.step_rules.specs.Runs.{Run}
use Rattle.step_rules.specs.Shapes.{IsCall}
use Rattle.step_rules.specs.Slots.{if_set, local_of}
use Rattle.step_rules.specs.States.{Frame, Point, State, gets, new_object, place_of, state_of, written}
use Rattle.step_rules.specs.Steps.{Becomes}
use Rattle.run_sound.specs.Frames.{node_of}
use Rattle.run_sound.proofs.Came.{Came, Stays, enters, stays_catches, stays_gets, stays_goes, stays_makes, stays_nests, stays_raises, stays_throws}
use Rattle.run_sound.proofs.Came as by
use Rattle.run_sound.proofs.Explained.{CanGet, CanSet, Gives, IsExplained, IsOnNull, IsPlain, IsUnwound, Stands, by_class, by_slot, by_text, caught, left, node_in}
use Rattle.run_sound.proofs.Invariant.{IsKeptAt, IsShaped}
use Rattle.run_sound.proofs.Keeping.{callers}
use Rattle.run_sound.proofs.Lists.{slice_get-slice_set}
use Rattle.run_sound.proofs.Machine.{going_on}
use Rattle.run_sound.proofs.Moves.{Moves, code_so, same_code, var_node}
use Rattle.run_sound.proofs.Returning.{Left, leaves, returns}
use Rattle.run_sound.proofs.Simulating.{kept_run}
use Rattle.run_sound.proofs.Standing.{form_fits}
use Rattle.run_sound.proofs.Table.{explained}
use Rattle.run_origins.specs.Origins.{CallsOnNull, CameFrom, GoesOnAs, HasOrigins, IsStoredStatic, IsWithin, KeepsObjects, Origins, TakesBy}
use Rattle.run_origins.specs.Origins as origins
use Rattle.run_origins.specs.Standing.{StandsFor}
use Rattle.run_origins.specs.Standing as stands
use Rattle.run_origins.proofs.Objects.{Keeps, both, more_heap, same_heap, set_heap}

-- ---- what is no identity takes nothing, and what is no call enters nothing

plain_taken : (c : Code) (f g : Frame) → IsPlain c → TakesBy c f g
plain_taken (code.This to) f g h = absurd h
plain_taken (code.Param to number) f g h = absurd h
plain_taken (code.Caught to) f g h = absurd h
plain_taken _ f g h = tt

raised_taken : (c : Code) (f g : Frame) (kind : ℕ) → MayRaise c kind → TakesBy c f g
raised_taken (code.This to) f g kind h = absurd h
raised_taken (code.Param to number) f g kind h = absurd h
raised_taken (code.Caught to) f g kind h = absurd h
raised_taken _ f g kind h = tt

plain_quiet : (c : Code) → IsPlain c → IsCall c → ⊥
plain_quiet (code.Call to mode class key receiver args targets) h is_call = h
plain_quiet _ h is_call = is_call

gives_quiet : (f : Frame) (c : Code) (value : Value) → Gives f c value → IsCall c → ⊥
gives_quiet f (code.Call to mode class key receiver args targets) value h is_call = h
gives_quiet f _ value h is_call = is_call

on_null : (f : Frame) (c : Code) → IsOnNull f c → IsCall c → CallsOnNull f c
on_null f (code.Call to mode class key receiver args targets) h is_call = h
on_null f _ h is_call = absurd is_call

-- ---- the words of the law

stands_for : (p : LinkedProgram) (f : Frame) (x : ℕ) {v : Var} → Stands p f x v → StandsFor p f x v
stands_for p f x (by_slot from e) = stands.slot from e
stands_for p f x (by_text below is) = stands.text below is
stands_for p f x (by_class below is) = stands.class below is

came_from : (p : LinkedProgram) (reach : Reach) (at : Point) (new : State) (n : Node) (x : ℕ) → Came p reach at new.heap n x → CameFrom p reach at new n x
came_from p reach at new n x (by.flowed held edge) = origins.flowed (stands_for p at.top x held) edge
came_from p reach at new n x (by.made {v} {object} last there start edge) =
    origins.made (record { last = last; object = object; there = there; start = start }) edge
came_from p reach at new n x (by.loaded {base} {field} {o} {object} holds there w edge) =
    origins.loaded {base = base} {field = field} {o = o} holds (record { object = object; there = there; written = w }) edge
came_from p reach at new n x (by.static {field} is load) = origins.static {field = field} is load

goes_on_as : (p : LinkedProgram) (reach : Reach) (at : Point) (form : IsShaped p at.top) (g : Frame) (Held : Slot → ℕ → Type 0)
    → Moves p reach at form g Held → GoesOnAs p at.top g
goes_on_as p reach at form g Held moves = record {
  method = moves.method;
  this = moves.this;
  params = moves.params;
  locals = λ x. elim (moves.locals x) [
    | inl same ↦ inl same
    | inr set ↦ inr (set.0, code_so p at.top form _ set.1)
  ];
}

module _ (p : LinkedProgram) (q : Asked) (well : IsWellLinked p) (at : Point) (kept : IsKeptAt p q at) where
  abbrev reach : Reach
  reach = q.reach

  abbrev form : IsShaped p at.top
  form = kept.frames.tracked.shaped

  fits : FitsMethod p form.method
  fits = form_fits p well at.top form

  abbrev IsNoCall : Effect → Type 0
  IsNoCall e = (frame : Frame) → e ≡ calls frame → ⊥

  -- the step has its origins, and objects stay
  abbrev Both : Effect → State → Type 0
  Both e new = Origins p reach at e new × KeepsObjects p at new

  keeps : (new : State) → Keeps at.heap new.heap → new.statics ≡ at.statics → KeepsObjects p at new
  keeps new objects same =
      record { objects = objects; statics = λ field x e. inl (subst (λ (vs : List Value). slice_get vs field ≡ Some (Object x)) same e) }

  -- the top frame goes on
  goes : (e : Effect) (g : Frame) (new : State) → new.frames ≡ at.below ++ g ∷ [] → Stays p reach at form fits new.heap g → IsNoCall e
      → (at.top.raised ≡ false → TakesBy form.code at.top g)
      → (at.top.raised ≡ false → IsCall form.code → CallsOnNull at.top form.code × (place_of g ≡ in_flight at.top.method at.top.index))
      → Origins p reach at e new
  goes e g new frames stays no_call takes null = origins.within (record {
    g = g;
    frames = frames;
    goes_on = goes_on_as p reach at form g _ stays;
    no_call = no_call;
    origins = λ to x h. came_from p reach at new (node_of g to) x (stays.slots to x h);
    identity = λ c is_at unraised. subst (λ (c : Code). TakesBy c at.top g) (same_code p at.top form c is_at) (takes unraised);
    null = λ c is_at is_call unraised.
        let same = same_code p at.top form c is_at in
        let n = null unraised (subst IsCall (sym same) is_call) in
        (subst (CallsOnNull at.top) same n.0, n.1);
  })

  -- by a statement that is neither a call nor an identity
  goes_plain : (e : Effect) (g : Frame) (new : State) → new.frames ≡ at.below ++ g ∷ [] → Stays p reach at form fits new.heap g → IsNoCall e → IsPlain form.code
      → Origins p reach at e new
  goes_plain e g new frames stays no_call plain =
      goes e g new frames stays no_call (λ r. plain_taken form.code at.top g plain) (λ r is_call. absurd (plain_quiet form.code plain is_call))

  -- a method is left
  left_both : (e : Effect) → IsNoCall e → (new : State) → Left p reach at new → Both e new
  left_both e no_call new (inl ends) = subst (Both e) (sym ends.1) (origins.ends refl no_call, keeps _ (same_heap at.heap) refl)
  left_both e no_call new (inr b) = subst (Both e) (sym b.becomes) (
    origins.way_back (record {
      below = b.below;
      caller = b.caller;
      under = b.is_under;
      g = b.g;
      frames = refl;
      goes_on = goes_on_as p reach _ b.its.form b.g _ b.moves;
      unraised = b.its.unraised;
      target = b.its.target;
      way = elim b.way [ inl w ↦ origins.return w.0 w.1 w.2 | inr w ↦ origins.exception w.0 w.1 ];
      no_call = no_call;
      origins = λ to x h. elim (b.moves.slots to x h) [
        | inl old ↦ inl old
        | inr given ↦ inr (given.0, stands_for p at.top x given.1, given.2)
      ];
    }),
    keeps _ (same_heap at.heap) refl,
  )

  module _ (unraised : at.top.raised ≡ false) where
    -- an identity takes what it names
    taken : (to : ℕ) (value : Value) → CanGet p at form.method form.code to value → TakesBy form.code at.top (gets to value at).top
    taken to value can = by_code form.code can.sets.1 can.gives
      where
        g : Frame
        g = (gets to value at).top

        behind : place_of g ≡ before at.top.method (at.top.index + 1)
        behind = ap (λ (r : Bool). record { method = at.top.method; index = at.top.index + 1; raised = r }) unraised

        holds : (y : ℕ) (given : Option Value) → Some y ≡ Some to → given ≡ Some value → local_of g y ≡ given
        holds y given only gives =
            let below = subst (λ n. to < n) (sym form.locals) can.sets.2 in
            subst (λ (y : ℕ). local_of g y ≡ given) (sym (same_Some y to only)) (ap if_set (slice_get-set_same at.top.locals to (Some value) below) ∙ sym gives)

        by_code : (c : Code) → AssignsTo c to → Gives at.top c value → TakesBy c at.top g
        by_code (code.This y) only gives = record { behind = behind; holds = holds y at.top.this only gives }
        by_code (code.Param y number) only gives = record { behind = behind; holds = holds y (slice_get at.top.params number) only gives }
        by_code (code.Caught y) only gives = record { behind = behind; holds = holds y at.top.caught only gives }
        by_code _ only gives = tt

    -- a static field is set
    set_kept : (field : ℕ) (value : Value) → CanSet p at form.method form.code field value → (new : State) → new.heap ≡ at.heap
        → new.statics ≡ slice_set at.statics field value → KeepsObjects p at new
    set_kept field value can new heap statics = record {
      objects = subst (Keeps at.heap) (sym heap) (same_heap at.heap);
      statics = λ to x e.
          let there = subst (λ (vs : List Value). slice_get vs to ≡ Some (Object x)) statics e in
          elim (slice_get-slice_set at.statics field to value (Object x) there) [
            | inl set ↦
                let from = can.from x (sym set.1) in
                inr (subst (IsStoredStatic p) (sym set.0) (record {
                  n = node_in at.top from.var;
                  node = var_node p reach at form unraised from.var from.has;
                  unraised = unraised;
                  stores = code_so p at.top form _ from.fact;
                }))
            | inr old ↦ inl old
          ];
    }

    by_effect : (e : Effect) → IsExplained p at form.method form.code e → ((g : Frame) → e ≡ calls g → HasTarget p at.top.method at.top.index g.method)
        → (new : State) → Becomes p at e new → Both e new
    by_effect effect.is_ill_typed j target new b =
        subst (Both effect.is_ill_typed) (sym b) (origins.ends refl (λ f e. cc (e)), keeps _ (same_heap at.heap) refl)
    by_effect (effect.raises kind) j target new b = subst (Both (effect.raises kind)) (sym b.2) (
      goes (effect.raises kind) _ _ refl (stays_raises p reach at form fits unraised kind b.0 j.0) (λ f e. cc (e))
          (λ r. raised_taken form.code at.top _ kind j.0) (λ r is_call. (on_null at.top form.code j.1 is_call, refl)),
      keeps _ (more_heap at.heap _) refl,
    )
    by_effect (effect.throws o) j target new b = subst (Both (effect.throws o)) (sym b) (
      goes_plain (effect.throws o) _ _ refl (stays_throws p reach at form fits unraised o j) (λ f e. cc (e)) j.plain,
      keeps _ (same_heap at.heap) refl,
    )
    by_effect (effect.goes index) j target new b = subst (Both (effect.goes index)) (sym b) (
      goes_plain (effect.goes index) _ _ refl (stays_goes p reach at form fits unraised at.heap index j) (λ f e. cc (e)) j.2,
      keeps _ (same_heap at.heap) refl,
    )
    by_effect (effect.gets to value) j target new b = subst (Both (effect.gets to value)) (sym b) (
      goes (effect.gets to value) _ _ refl (stays_gets p reach at form fits unraised to value j) (λ f e. cc (e)) (λ r. taken to value j)
          (λ r is_call. absurd (gives_quiet at.top form.code value j.gives is_call)),
      keeps _ (same_heap at.heap) refl,
    )
    by_effect (effect.makes to class) j target new b = subst (Both (effect.makes to class)) (sym b) (
      goes_plain (effect.makes to class) _ _ refl (stays_makes p reach at form fits unraised to class j) (λ f e. cc (e)) j.plain,
      keeps _ (more_heap at.heap _) refl,
    )
    by_effect (effect.nests to o inner class) j target new b = subst (Both (effect.nests to o inner class)) (sym b.2) (
      goes_plain (effect.nests to o inner class) _ _ refl (stays_nests p reach at form fits unraised to o inner class j b.0 b.1) (λ f e. cc (e)) j.plain,
      keeps _ (both at.heap (at.heap ++ new_object inner class ∷ []) _ (more_heap at.heap (new_object inner class))
          (set_heap (at.heap ++ new_object inner class ∷ []) o 0 _ b.0 (slice_get-append_left at.heap (new_object inner class ∷ []) o b.0 b.1))) refl,
    )
    by_effect (effect.writes o field value) j target new b = subst (Both (effect.writes o field value)) (sym b.2) (
      goes_plain (effect.writes o field value) _ _ refl
          (stays_goes p reach at form fits unraised (slice_set at.heap o (written b.0 field value)) (at.top.index + 1) j.goes) (λ f e. cc (e)) j.goes.2,
      keeps _ (set_heap at.heap o field value b.0 b.1) refl,
    )
    by_effect (effect.sets field value) j target new b = subst (Both (effect.sets field value)) (sym b) (
      goes_plain (effect.sets field value) _ _ refl (stays_goes p reach at form fits unraised at.heap (at.top.index + 1) j.goes) (λ f e. cc (e)) j.goes.2,
      set_kept field value j _ refl refl,
    )
    by_effect (effect.calls g) j target new b =
        let its = target g refl in
        let entry = enters p reach at form fits unraised g its (j its) in
        subst (Both (effect.calls g)) (sym b) (
          origins.entry (record {
            g = g;
            is_call = refl;
            frames = refl;
            unraised = unraised;
            begins = entry.begins;
            target = its;
            origins = λ to x h. let from = entry.slots to x h in (from.0, stands_for p at.top x from.1, from.2);
            passed = (j its).passed;
          }),
          keeps _ (same_heap at.heap) refl,
        )
    by_effect (effect.returns value) j target new b =
        left_both (effect.returns value) (λ f e. cc (e)) new (returns p reach at well form (callers p q well at kept) new unraised value j b)
    by_effect (effect.handles handler o) j target new b = absurd j
    by_effect (effect.leaves o) j target new b = absurd j

  by_flight : (raised : at.top.raised ≡ true) (e : Effect) → IsUnwound p at form.method form.code e → (new : State) → Becomes p at e new → Both e new
  by_flight raised e (caught {handler} {o} thrown handles) = λ new b. subst (Both (effect.handles handler o)) (sym b) (
    goes (effect.handles handler o) _ _ refl (stays_catches p reach at form fits raised handler o thrown handles) (λ f e. cc (e))
        (λ r. absurd (cc (r, raised))) (λ r is_call. absurd (cc (r, raised))),
    keeps _ (same_heap at.heap) refl,
  )
  by_flight raised e (left {o} thrown) = λ new b.
      left_both (effect.leaves o) (λ f e. cc (e)) new (leaves p reach at well form (callers p q well at kept) new raised o thrown b)

-- each step of each run
pub steps_originate : (p : LinkedProgram) → IsWellLinked p → IsCovered p → HasOrigins p
steps_originate p well covered reach count choice old new run step =
    let at = step.at in
    let q : Asked = record { targets = []; reach = reach } in
    let run_there : Run p count (state_of at) = subst (Run p count) step.stands run in
    let kept = going_on p q well at (kept_run p q well covered run_there) in
    elim (explained p well at kept.frames.tracked.shaped at.top.raised refl step.offered step.offers step.effect (choice, step.chosen)) [
      | inl so ↦ by_effect p q well at kept so.0 step.effect so.1
          (λ g same. covered count at step.offered g run_there step.offers (choice, step.chosen ∙ ap Some same)) new step.becomes
      | inr so ↦ by_flight p q well at kept so.0 step.effect so.1 new step.becomes
    ]
