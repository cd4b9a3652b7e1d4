-- Each explained effect keeps what is known: objects are reached along the edges by which they came, and what is written was stored.
use Rattle.std.proofs.Common.{◌≡◌, ℕ, ◌+◌, ◌++◌, Some, Bool, true, false, List, [], ◌∷◌, length, slice_get, refl, sym, ap, ◌∙◌, subst, inl, inr}
use Rattle.std.specs.List.{slice_set}
use Rattle.lists.proofs.Places.{slice_get-append_left, slice_get-push}
use Rattle.link_rules.specs.Linked.{LinkedProgram}
use Rattle.link_rules.specs.WellLinked.{FitsMethod, HasTarget, IsWellLinked}
use Rattle.link_sites.specs.declared.place.Place.{Place}
use Rattle.link_sites.specs.declared.site.Site.{Site}
use Rattle.link_sites.specs.declared.site.Site.TheVariants as site
use Rattle.link_sites.specs.Places.{before}
use Rattle.link_sites.specs.Sites.{HasField, IsArraySite, IsInnerSite, IsSiteClass}
use Rattle.spds_laws.proofs.Compose.{strings_within, words_composed}
use Rattle.spds_rules.specs.declared.edge.EdgeKind.TheVariants.{Jump}
use Rattle.spds_rules.specs.declared.node.Node.{Node}
use Rattle.spds_rules.specs.declared.node.Var.{Var}
use Rattle.spds_rules.specs.declared.node.Var.TheVariants as var
use Rattle.spds_rules.specs.Demand.{Asked, Demand, FieldIn, source}
use Rattle.spds_rules.specs.Edges.{IsEdge}
use Rattle.spds_rules.specs.Nodes.{IsNode}
use Rattle.spds_rules.specs.Systems.{Calls, Fields, InCalls, InFields, IsString}
use Rattle.step_rules.specs.declared.parts.Slot.{Slot}
use Rattle.step_rules.specs.declared.parts.Slot.TheVariants as slot
use Rattle.step_rules.specs.declared.parts.Value.{Value}
use Rattle.step_rules.specs.declared.parts.Value.TheVariants.{Object}
use Rattle.step_rules.specs.Effects.{Effect}
use Rattle.step_rules.specs.Effects as effect
use Rattle.step_rules.specs.Slots.{local_of, slot_of}
use Rattle.step_rules.specs.States.{Ending, Frame, HeapObject, Point, State, ill_typed, new_object, place_of, running, state_of, stopped, written}
use Rattle.step_rules.specs.States as states
use Rattle.step_rules.specs.Steps.{Becomes}
use Rattle.run_sound.specs.Frames.{node_of}
use Rattle.run_sound.specs.Simulated.{IsLoadedFrom}
use Rattle.run_sound.proofs.Came.{Came, Enters, Stays, enters, flowed, loaded, made, static, stays_catches, stays_gets, stays_goes, stays_makes, stays_nests, stays_raises, stays_throws}
use Rattle.run_sound.proofs.Edges.{along_call, along_flow, along_jump, along_return, at_start}
use Rattle.run_sound.proofs.Explained.{CanNest, CanSet, CanWrite, IsBy, IsExplained, IsUnwound, Stands, by_class, by_slot, by_text, caught, left, node_in}
use Rattle.run_sound.proofs.Growing.{Extends, extends_more, extends_same, reached_more, waits_more}
use Rattle.run_sound.proofs.Invariant.{IsKept, IsKeptAt, IsMemory, IsReached, IsShaped, IsStored, Waits, more, sites_of}
use Rattle.run_sound.proofs.Lists.{map-slice_set}
use Rattle.run_sound.proofs.Memory.{memory_allocated, memory_set, memory_written}
use Rattle.run_sound.proofs.Moves.{code_so, var_node}
use Rattle.run_sound.proofs.Nesting.{inner_class, nested_stored}
use Rattle.run_sound.proofs.Nodes.{loaded_node}
use Rattle.run_sound.proofs.Returning.{IsCaller, Left, leaves, returns}
use Rattle.run_sound.proofs.Standing.{form_fits}
use Rattle.run_sound.proofs.Waiting.{HasCaller, caller_of, is_string}
use Rattle.run_sound.proofs.Words.{IsMet, met, site_there}

module _ (p : LinkedProgram) (q : Asked) (well : IsWellLinked p) (point : Point) (kept : IsKeptAt p q point) where
  -- what is known
  abbrev f : Frame
  f = point.top

  abbrev form : IsShaped p f
  form = kept.frames.tracked.shaped

  abbrev string : List Place
  string = kept.frames.string

  abbrev sites : List Site
  sites = sites_of point.heap

  fits : FitsMethod p form.method
  fits = form_fits p well f form

  strings : IsString p f.method string
  strings = is_string p q sites kept.frames.waits

  -- the frame below the top one waits for it
  pub callers : (below : List Frame) (caller : Frame) → point.below ≡ below ++ caller ∷ [] → IsCaller p caller f
  callers below caller e =
      let has = caller_of p q sites kept.frames.waits below caller e in
      record { form = has.tracked.shaped; unraised = has.unraised; target = has.target }

  -- an object is reached where a variable stands for it
  stands_reached : (v : Var) (x : ℕ) → Stands p f x v → IsNode p (node_in f v) → Demand p q (node_in f v) → IsReached p q sites (node_in f v) string x
  stands_reached v x (by_slot from e) node d = kept.frames.tracked.slots from x e d
  stands_reached v x (by_text {i} below is) node d = at_start p q sites (node_in f (var.Text i)) (site.Text i) string x
      (subst (λ (n : ℕ). slice_get sites n ≡ Some (site.Text i)) (sym is) (kept.memory.constants.texts i below)) (node, refl) strings d
  stands_reached v x (by_class {i} below is) node d = at_start p q sites (node_in f (var.Class i)) (site.Class i) string x
      (subst (λ (n : ℕ). slice_get sites n ≡ Some (site.Class i)) (sym is) (kept.memory.constants.classes i below)) (node, refl) strings d

  -- ---- the frames

  module _ (heap : List HeapObject) (statics : List Value) (grows : Extends sites (sites_of heap)) (memory : IsMemory p q heap statics) where
    -- what a local holds, by the site of its object
    of_base : (base o : ℕ) (object : HeapObject) → local_of f base ≡ Some (Object o) → slice_get (sites_of heap) o ≡ Some object.site
        → Demand p q (node_in f (var.Local base))
        → Fields p q object.site (node_in f (var.Local base)) [] × Calls p q object.site (node_in f (var.Local base)) string
    of_base base o object holds there d =
        let r = reached_more p q sites (sites_of heap) grows (node_in f (var.Local base)) string o (kept.frames.tracked.slots (slot.Local base) o holds d) in
        let is = r.of_site in
        let same : r.site ≡ object.site = cc (is, there) in (
          subst (λ s. Fields p q s (node_in f (var.Local base)) []) same r.by_fields,
          subst (λ s. Calls p q s (node_in f (var.Local base)) string) same r.by_calls,
        )

    -- an object that came to a node is reached there
    came_reached : (n : Node) (x : ℕ) → n.place.method ≡ f.method → Came p q.reach point heap n x → Demand p q n → IsReached p q (sites_of heap) n string x
    came_reached n x same (flowed {v} stands edge) d = along_flow p q (sites_of heap) (node_in f v) n string x edge d
        (λ d. reached_more p q sites (sites_of heap) grows (node_in f v) string x (stands_reached v x stands edge.from d))
    came_reached n x same (made {v} {object} last there start edge) d = along_flow p q (sites_of heap) (node_in f v) n string x edge d
        (λ d. at_start p q (sites_of heap) (node_in f v) object.site string x (site_there heap x object there) start strings d)
    came_reached n x same (static {field} is load) d = reached_more p q sites (sites_of heap) grows n string x
        (kept.memory.static_fields field x n string is d load (subst (λ (m : ℕ). IsString p m string) (sym same) strings))
    came_reached n x same (loaded {base} {field} {o} {object} holds there w edge) d = record {
      site = other.site;
      of_site = other.of_site;
      by_fields = InFields.load (edge, d) (subst (λ f. Fields p q other.site from (f ∷ [])) stored.is_field longer);
      by_calls = InCalls.keep (edge, d) tt (strings_within p q other.site object.site stored.store other.meets from string reached.1);
    }
      where
        from : Node
        from = node_in f (var.Local base)

        field_in : FieldIn p q field
        field_in = record { from = from; to = n; edge = edge; demanded = d }

        reached : Fields p q object.site from [] × Calls p q object.site from string
        reached = of_base base o object holds (site_there heap o object there) (source edge d)

        stored : IsStored p q (sites_of heap) object.site field x
        stored = subst (λ f. IsStored p q (sites_of heap) object.site f x) w.2 ((memory.objects o object there).stored w.0 x w.1 w.3)

        other : IsMet p q (sites_of heap) object.site stored.store x
        other = met p q (sites_of heap) object.site field x stored
            (subst (HasField p object.site) w.2 ((memory.objects o object there).fields w.0 w.1)) field_in

        longer : Fields p q other.site from (stored.store.field ∷ [])
        longer = words_composed p q other.site object.site stored.store other.meets from [] [] reached.0 other.at_arg

    -- the top frame goes on
    kept_stays : (g : Frame) → Stays p q.reach point form fits heap g
        → IsKept p q (record { frames = point.below ++ g ∷ []; heap = heap; statics = statics; ending = running })
    kept_stays g stays = record {
      frames = inr (
        point.below,
        g,
        refl,
        record {
          string = string;
          waits = subst (λ (m : ℕ). Waits p q (sites_of heap) point.below m string) (sym stays.method)
              (waits_more p q sites (sites_of heap) grows kept.frames.waits);
          tracked = record { shaped = stays.shaped; slots = λ to x e d. came_reached (node_of g to) x stays.method (stays.slots to x e) d };
        },
      );
      memory = memory;
    }

  -- the run has ended
  kept_stopped : (how : Ending) → IsKept p q (stopped how point)
  kept_stopped how = record { frames = inl refl; memory = kept.memory }

  -- nothing else than the top frame changes
  kept_same : (g : Frame) → Stays p q.reach point form fits point.heap g
      → IsKept p q (record { frames = point.below ++ g ∷ []; heap = point.heap; statics = point.statics; ending = running })
  kept_same g stays = kept_stays point.heap point.statics (extends_same sites sites refl) kept.memory g stays

  -- there is one more object
  kept_more : (is_site : Site) (class : ℕ) → IsSiteClass p is_site class → (g : Frame)
      → Stays p q.reach point form fits (point.heap ++ new_object is_site class ∷ []) g
      → IsKept p q (record { frames = point.below ++ g ∷ []; heap = point.heap ++ new_object is_site class ∷ []; statics = point.statics; ending = running })
  kept_more is_site class is g stays = kept_stays (point.heap ++ new_object is_site class ∷ []) point.statics
      (extends_more point.heap (new_object is_site class)) (memory_allocated p q point.heap point.statics kept.memory is_site class is) g stays

  -- a method is entered
  kept_enters : (g : Frame) → f.raised ≡ false → HasTarget p f.method f.index g.method → Enters p q.reach point g
      → IsKept p q (state_of (states.enters g point))
  kept_enters g unraised target e = record {
    frames = inr (
      point.below ++ f ∷ [],
      g,
      refl,
      record {
        string = before f.method f.index ∷ string;
        waits = more kept.frames.waits unraised target kept.frames.tracked;
        tracked = record {
          shaped = e.shaped;
          slots = λ to x h d.
              let by = e.slots to x h in
              subst (λ (r : Bool). IsReached p q sites (node_of g to) (record { method = f.method; index = f.index; raised = r } ∷ string) x) unraised
              (along_call p q sites (node_in f by.0) (node_of g to) (place_of f) string x by.2 d (λ d. stands_reached by.0 x by.1 by.2.from d));
        };
      },
    );
    memory = kept.memory;
  }

  -- a method is left
  kept_left : (new : State) → Left p q.reach point new → IsKept p q new
  kept_left new (inl ends) = subst (IsKept p q) (sym ends.1) (kept_stopped ends.0)
  kept_left new (inr b) = subst (IsKept p q) (sym b.becomes) (record {
    frames = inr (
      b.below,
      b.g,
      refl,
      record {
        string = has.outer;
        waits = subst (λ (m : ℕ). Waits p q sites b.below m has.outer) (sym b.moves.method) has.waits;
        tracked = record { shaped = b.moves.shaped; slots = slots };
      },
    );
    memory = kept.memory;
  })
    where
      has : HasCaller p q sites b.below b.caller f.method string
      has = caller_of p q sites kept.frames.waits b.below b.caller b.is_under

      at_place : string ≡ place_of b.caller ∷ has.outer
      at_place = has.is ∙ ap (λ (r : Bool). record { method = b.caller.method; index = b.caller.index; raised = r } ∷ has.outer) (sym has.unraised)

      slots : (to : Slot) (x : ℕ) → slot_of b.g to ≡ Some (Object x) → Demand p q (node_of b.g to) → IsReached p q sites (node_of b.g to) has.outer x
      slots to x e d = elim (b.moves.slots to x e) [
        | inl old ↦ along_flow p q sites (node_of b.caller to) (node_of b.g to) has.outer x old.1 d (λ d. has.tracked.slots to x old.0 d)
        | inr given ↦ along_return p q sites (node_in f given.0) (node_of b.g to) (place_of b.caller) has.outer x given.2 d
            (λ d. subst (λ s. IsReached p q sites (node_in f given.0) s x) at_place (stands_reached given.0 x given.1 given.2.from d))
      ]

  -- ---- the heap and the static fields

  module _ (unraised : f.raised ≡ false) where
    -- a variable of the statement
    by_reached : (Fact : Var → Type 0) (x : ℕ) (by : IsBy p point form.method form.code Fact x) → Demand p q (node_in f by.var)
        → IsReached p q sites (node_in f by.var) string x
    by_reached Fact x by d = stands_reached by.var x by.stands (var_node p q.reach point form unraised by.var by.has) d

    -- a value is written
    kept_writes : (o field : ℕ) (value : Value) → CanWrite p point form.method form.code o field value → (object : HeapObject)
        → slice_get point.heap o ≡ Some object
        → IsKept p q (state_of (states.goes_on (record point { heap = slice_set point.heap o (written object field value) })))
    kept_writes o field value can object there =
        let same = map-slice_set (λ (h : HeapObject). h.site) point.heap o (written object field value) object there refl in
        kept_stays heap point.statics (extends_same sites (sites_of heap) same)
        (memory_written p q point.heap point.statics kept.memory o field value object there has stored) (states.goes_on point).top
        (stays_goes p q.reach point form fits unraised heap (f.index + 1) can.goes)
      where
        heap : List HeapObject
        heap = slice_set point.heap o (written object field value)

        is : can.object ≡ object
        is = let known = can.there in cc (known, there)

        has : HasField p object.site field
        has = subst (λ (h : HeapObject). HasField p h.site field) is
            (elim can.has [ inl array ↦ inl array | inr declared ↦ inr (can.object.class, (kept.memory.objects o can.object can.there).class, declared) ])

        stored : (x : ℕ) → value ≡ Object x → IsStored p q sites object.site field x
        stored x e = let by = can.from x e in record {
          store = record { place = place_of f; field = field; base = node_in f (var.Local can.base); arg = node_in f by.var };
          is_store = record { unraised = unraised; base_there = refl; arg_there = refl; stores = code_so p f form _ by.fact };
          is_field = refl;
          string = string;
          at_base = of_base point.heap point.statics (extends_same sites sites refl) kept.memory can.base o object can.holds
              (site_there point.heap o object there);
          at_arg = by_reached _ x by;
        }

    -- an array of an inner level comes to be an element
    kept_nests : (to o : ℕ) (inner : Site) (class : ℕ) → CanNest p point form.method form.code to o inner class → (outer : HeapObject)
        → slice_get point.heap o ≡ Some outer
        → IsKept p q (state_of (states.gets to (Object (length point.heap))
        (record point { heap = slice_set (point.heap ++ new_object inner class ∷ []) o (written outer 0 (Object (length point.heap))) })))
    kept_nests to o inner class can outer there =
        kept_stays (slice_set more_heap o held) point.statics grows now (states.gets to (Object count) point).top
        (stays_nests p q.reach point form fits unraised to o inner class can outer there)
      where
        count : ℕ
        count = length point.heap

        more_heap : List HeapObject
        more_heap = point.heap ++ new_object inner class ∷ []

        held : HeapObject
        held = written outer 0 (Object count)

        is : can.outer ≡ outer
        is = let known = can.there in cc (known, there)

        is_array : IsArraySite p outer.site
        is_array = subst (λ (h : HeapObject). IsArraySite p h.site) is can.is_array

        is_inner : IsInnerSite p outer.site inner
        is_inner = subst (λ (h : HeapObject). IsInnerSite p h.site inner) is can.is_inner

        there_too : slice_get more_heap o ≡ Some outer
        there_too = slice_get-append_left point.heap (new_object inner class ∷ []) o outer there

        last : slice_get (sites_of more_heap) count ≡ Some inner
        last = site_there more_heap count (new_object inner class) (slice_get-push point.heap (new_object inner class))

        grown : IsMemory p q more_heap point.statics
        grown = memory_allocated p q point.heap point.statics kept.memory inner class (inner_class p outer.site inner class is_inner can.class_named)

        now : IsMemory p q (slice_set more_heap o held) point.statics
        now = memory_written p q more_heap point.statics grown o 0 (Object count) outer there_too (inl (refl, is_array))
            (λ x e. nested_stored p q well (sites_of more_heap) outer.site inner is_array is_inner x
            (subst (λ n. slice_get (sites_of more_heap) n ≡ Some inner) (let same : count ≡ x = cc (e) in same) last))

        grows : Extends sites (sites_of (slice_set more_heap o held))
        grows x of e =
            let same = map-slice_set (λ (h : HeapObject). h.site) more_heap o held outer there_too refl in
            extends_same (sites_of more_heap) (sites_of (slice_set more_heap o held)) same x of (extends_more point.heap (new_object inner class) x of e)

    -- a static field is set
    kept_sets : (field : ℕ) (value : Value) → CanSet p point form.method form.code field value
        → IsKept p q (state_of (states.goes_on (record point { statics = slice_set point.statics field value })))
    kept_sets field value can = kept_stays point.heap (slice_set point.statics field value) (extends_same sites sites refl)
        (memory_set p q point.heap point.statics kept.memory field value loads) (states.goes_on point).top
        (stays_goes p q.reach point form fits unraised point.heap (f.index + 1) can.goes)
      where
        loads : (x : ℕ) (n : Node) (other : List Place) → value ≡ Object x → Demand p q n → IsLoadedFrom p field n → IsString p n.place.method other
            → IsReached p q sites n other x
        loads x n other is d load of =
            let by = can.from x is in
            let edge : IsEdge p q.reach (node_in f by.var) Jump n =
            record {
              from = var_node p q.reach point form unraised by.var by.has;
              to = loaded_node p well field n load;
              row = record {
                field = field;
                load = load.load;
                unraised = (unraised, load.unraised);
                stores = code_so p f form _ by.fact;
                loads = load.loads;
              };
            } in
            along_jump p q sites (node_in f by.var) n string other x edge d (by_reached _ x by) of

    -- ---- each effect

    pub kept_effect : (e : Effect) → IsExplained p point form.method form.code e
        → ((frame : Frame) → e ≡ effect.calls frame → HasTarget p f.method f.index frame.method)
        → (new : State) → Becomes p point e new
        → IsKept p q new
    kept_effect effect.is_ill_typed j target new b = subst (IsKept p q) (sym b) (kept_stopped ill_typed)
    kept_effect (effect.raises kind) j target new b = subst (IsKept p q) (sym b.2) (kept_more (site.Raised (place_of f) kind) b.0
        ((unraised, code_so p f form _ j.0), b.1) _
        (stays_raises p q.reach point form fits unraised kind b.0 j.0))
    kept_effect (effect.throws o) j target new b = subst (IsKept p q) (sym b) (kept_same _ (stays_throws p q.reach point form fits unraised o j))
    kept_effect (effect.goes index) j target new b = subst (IsKept p q) (sym b) (kept_same _ (stays_goes p q.reach point form fits unraised point.heap index j))
    kept_effect (effect.gets to value) j target new b = subst (IsKept p q) (sym b) (kept_same _ (stays_gets p q.reach point form fits unraised to value j))
    kept_effect (effect.makes to class) j target new b = subst (IsKept p q) (sym b) (kept_more (site.New (place_of f)) class
        (unraised, code_so p f form _ j.class_made) _
        (stays_makes p q.reach point form fits unraised to class j))
    kept_effect (effect.nests to o inner class) j target new b = subst (IsKept p q) (sym b.2) (kept_nests to o inner class j b.0 b.1)
    kept_effect (effect.writes o field value) j target new b = subst (IsKept p q) (sym b.2) (kept_writes o field value j b.0 b.1)
    kept_effect (effect.sets field value) j target new b = subst (IsKept p q) (sym b) (kept_sets field value j)
    kept_effect (effect.calls g) j target new b =
        let is = target g refl in
        subst (IsKept p q) (sym b) (kept_enters g unraised is (enters p q.reach point form fits unraised g is (j is)))
    kept_effect (effect.returns value) j target new b = kept_left new (returns p q.reach point well form callers new unraised value j b)
    kept_effect (effect.handles handler o) j target new b = absurd j
    kept_effect (effect.leaves o) j target new b = absurd j

  -- the same with an exception in flight
  pub kept_unwound : f.raised ≡ true → (e : Effect) → IsUnwound p point form.method form.code e → (new : State) → Becomes p point e new → IsKept p q new
  kept_unwound raised e (caught {handler} {o} thrown handles) = λ new b.
      subst (IsKept p q) (sym b) (kept_same _ (stays_catches p q.reach point form fits raised handler o thrown handles))
  kept_unwound raised e (left {o} thrown) = λ new b. kept_left new (leaves p q.reach point well form callers new raised o thrown b)
