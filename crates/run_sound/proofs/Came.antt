-- Where the objects come from that the slots of the top frame hold after a step: by each effect, with the edge into the slot's node.
use Rattle.std.proofs.Common.{◌≡◌, ℕ, ◌+◌, ◌++◌, ◌<◌, Some, Bool, true, false, List, [], ◌∷◌, length, slice_get, refl, sym, ap, ◌∙◌, subst, inl, inr}
use Rattle.std.specs.List.{slice_set}
use Rattle.lists.proofs.Places.{slice_get-append_left, slice_get-below, slice_get-push, slice_get-set_same, slice_get-there}
use Rattle.link_rules.specs.declared.code.Code.{Code}
use Rattle.link_rules.specs.declared.code.Code.TheVariants as code
use Rattle.link_rules.specs.Flow.{Handles, MayRaise, Next, IsRaised}
use Rattle.link_rules.specs.Linked.{LinkedProgram}
use Rattle.link_rules.specs.WellLinked.{FitsCatch, FitsMethod, HasTarget}
use Rattle.link_laws.proofs.Lists.{at_all}
use Rattle.link_sites.specs.declared.site.Site.{Site}
use Rattle.link_sites.specs.declared.site.Site.TheVariants as site
use Rattle.link_sites.specs.Places.{before}
use Rattle.spds_rules.specs.declared.edge.EdgeKind.TheVariants.{Call, Flow, Load}
use Rattle.spds_rules.specs.declared.node.Node.{Node}
use Rattle.spds_rules.specs.declared.node.Var.{Var}
use Rattle.spds_rules.specs.declared.node.Var.TheVariants as var
use Rattle.spds_rules.specs.declared.reach.Reach.{Reach}
use Rattle.spds_rules.specs.Edges.{Assigns, FlowsIn, IsEdge, IsThrownBy, LoadsInto}
use Rattle.spds_rules.specs.Nodes.{HasVar, IsNode, IsStart}
use Rattle.step_rules.specs.declared.parts.Slot.{Slot}
use Rattle.step_rules.specs.declared.parts.Slot.TheVariants.{Local, This, Param, Caught, Thrown}
use Rattle.step_rules.specs.declared.parts.Value.{Value}
use Rattle.step_rules.specs.declared.parts.Value.TheVariants.{Object}
use Rattle.step_rules.specs.Slots.{local_of, slot_of}
use Rattle.step_rules.specs.States.{Frame, HeapObject, Point, Write, catches, gets, goes_to, new_object, place_of, throws, written}
use Rattle.run_sound.specs.Frames.{node_of, var_of}
use Rattle.run_sound.specs.Simulated.{IsLoadedFrom}
use Rattle.run_sound.proofs.Explained.{CanEnter, CanGet, CanGo, CanMake, CanNest, CanThrow, GetsFrom, Sets, Stands, assigned, by_slot, loaded as by_load, node_in, static as by_static}
use Rattle.run_sound.proofs.Invariant.{IsShaped}
use Rattle.run_sound.proofs.Moves.{Moves, code_so, edge, gets_moves, goes_moves, throws_moves, var_node}
use Rattle.run_sound.proofs.Nodes.{has_node}
use Rattle.run_sound.proofs.Words.{WasWritten}

-- the object came to the node from the frame on top: along a flow, from what stood for it there or from where it was made; along a load, from a local that
-- holds an object which holds it in this heap; or out of a static field
pub data Came (p : LinkedProgram) (reach : Reach) (point : Point) (heap : List HeapObject) (n : Node) (x : ℕ) : Type 0 where
  flowed : {v : Var} → Stands p point.top x v → IsEdge p reach (node_in point.top v) Flow n → Came p reach point heap n x
  made : {v : Var} {object : HeapObject} → x ≡ length point.heap → slice_get heap x ≡ Some object → IsStart p object.site (node_in point.top v)
      → IsEdge p reach (node_in point.top v) Flow n → Came p reach point heap n x
  loaded : {base field o : ℕ} {object : HeapObject} → local_of point.top base ≡ Some (Object o) → slice_get heap o ≡ Some object
      → WasWritten object field (Object x) → IsEdge p reach (node_in point.top (var.Local base)) (Load field) n → Came p reach point heap n x
  static : {field : ℕ} → slice_get point.statics field ≡ Some (Object x) → IsLoadedFrom p field n → Came p reach point heap n x

-- what raises an exception may have one in flight
may_raise : (c : Code) (kind : ℕ) → MayRaise c kind → IsRaised c
may_raise (code.Throw a) kind h = tt
may_raise (code.Call to mode class key receiver args targets) kind h = tt
may_raise c kind h = (kind, h)

-- the frame of a method that is called, of which each object was passed
pub record Enters (p : LinkedProgram) (reach : Reach) (point : Point) (g : Frame) : Type 0 where
  pub shaped : IsShaped p g
  pub begins : place_of g ≡ before g.method 0
  pub slots : (to : Slot) (x : ℕ) → slot_of g to ≡ Some (Object x)
      → (v : Var) × Stands p point.top x v × IsEdge p reach (node_in point.top v) (Call (place_of point.top)) (node_of g to)

module _ (p : LinkedProgram) (reach : Reach) (point : Point) (form : IsShaped p point.top) (fits : FitsMethod p form.method) where
  abbrev f : Frame
  f = point.top

  -- the top frame goes on as this one, over this heap
  abbrev pub Stays : List HeapObject → Frame → Type 0
  Stays heap g = Moves p reach point form g (λ to x. Came p reach point heap (node_of g to) x)

  module _ (unraised : f.raised ≡ false) where
    -- nothing is assigned
    pub stays_goes : (heap : List HeapObject) (index : ℕ) → CanGo p point form.method form.code index → Stays heap (goes_to index point).top
    stays_goes heap index can = goes_moves p reach point form unraised fits index can.0 can.1 _ (λ to x e edge. flowed (by_slot to e) edge)

    -- the edge of an assignment
    assign_edge : (v : Var) → HasVar form.method form.code false v → (to : ℕ) (value : Value) → Next form.code f.index (f.index + 1)
        → Assigns form.code v (var.Local to) → IsNode p (node_of (gets to value point).top (Local to))
        → IsEdge p reach (node_in f v) Flow (node_of (gets to value point).top (Local to))
    assign_edge v has to value next assigns node = edge p reach point form v (var_node p reach point form unraised v has) (gets to value point).top refl
        false false unraised unraised (Local to) node (next, inr assigns)

    -- the edge of a load
    load_edge : (base field o to : ℕ) (value : Value) → local_of f base ≡ Some (Object o) → LoadsInto form.code (var.Local base) field (var.Local to)
        → Next form.code f.index (f.index + 1) → IsNode p (node_of (gets to value point).top (Local to))
        → IsEdge p reach (node_in f (var.Local base)) (Load field) (node_of (gets to value point).top (Local to))
    load_edge base field o to value holds loads next node = record {
      from = has_node p f form (Local base) (Object o) holds;
      to = node;
      row = record { same = refl; unraised = (unraised, unraised); loads = code_so p f form _ (loads, next) };
    }

    -- a local gets a value
    got : (to x : ℕ) (value : Value) → Next form.code f.index (f.index + 1) → GetsFrom p point form.method form.code to x
        → IsNode p (node_of (gets to value point).top (Local to)) → Came p reach point point.heap (node_of (gets to value point).top (Local to)) x
    got to x value next (assigned by) node = flowed by.stands (assign_edge by.var by.has to value next by.fact node)
    got to x value next (by_load base field o object holds there written loads) node =
        loaded {base = base} {field = field} {o = o} {object = object} holds there written (load_edge base field o to value holds loads next node)
    got to x value next (by_static field is loads) node = static {field = field} is
        (record { load = f.index; unraised = unraised; loads = code_so p f form _ (loads, next) })

    sets_stay : (heap : List HeapObject) (to : ℕ) (value : Value) → Sets p point form.method form.code to
        → ((x : ℕ) → value ≡ Object x → IsNode p (node_of (gets to value point).top (Local to))
        → Came p reach point heap (node_of (gets to value point).top (Local to)) x)
        → Stays heap (gets to value point).top
    sets_stay heap to value sets anew =
        gets_moves p reach point form unraised fits to value sets.0 sets.1 sets.2 _ (λ to x e edge. flowed (by_slot to e) edge) anew

    pub stays_gets : (to : ℕ) (value : Value) → CanGet p point form.method form.code to value → Stays point.heap (gets to value point).top
    stays_gets to value can = sets_stay point.heap to value can.sets (λ x is node. got to x value can.sets.0 (can.from x is) node)

    -- the heap with one more object, which is the last
    abbrev pub anew : Site → ℕ → List HeapObject
    anew is_site class = point.heap ++ new_object is_site class ∷ []

    last : (is_site : Site) (class x : ℕ) → x ≡ length point.heap → slice_get (anew is_site class) x ≡ Some (new_object is_site class)
    last is_site class x is =
        subst (λ (n : ℕ). slice_get (anew is_site class) n ≡ Some (new_object is_site class)) (sym is) (slice_get-push point.heap (new_object is_site class))

    -- an object that was made is got
    pub stays_makes : (to class : ℕ) → CanMake p point form.method form.code to class
        → Stays (anew (site.New (place_of f)) class) (gets to (Object (length point.heap)) point).top
    stays_makes to class can = sets_stay _ to _ can.sets (λ x of node.
        let is : x ≡ length point.heap = cc (of) in
        made is (last (site.New (place_of f)) class x is) (var_node p reach point form unraised var.Made can.makes, refl)
        (assign_edge var.Made can.makes to (Object (length point.heap)) can.sets.0 can.assigns node))

    -- a new element is got
    pub stays_nests : (to o : ℕ) (inner : Site) (class : ℕ) → CanNest p point form.method form.code to o inner class → (outer : HeapObject)
        → slice_get point.heap o ≡ Some outer
        → Stays (slice_set (anew inner class) o (written outer 0 (Object (length point.heap)))) (gets to (Object (length point.heap)) point).top
    stays_nests to o inner class can outer there = sets_stay _ to _ can.sets (λ x of node.
        let write : Write = record { field = 0; value = Object (length point.heap) } in
        let more = slice_get-append_left point.heap (new_object inner class ∷ []) o outer there in
        loaded {base = can.base} {field = 0} {o = o} {object = written outer 0 (Object (length point.heap))} can.holds
        (slice_get-set_same (anew inner class) o (written outer 0 (Object (length point.heap))) (slice_get-below (anew inner class) o outer more))
        (write, (length outer.writes, slice_get-push outer.writes write), refl, of)
        (load_edge can.base 0 o to (Object (length point.heap)) can.holds can.loads can.sets.0 node))

    -- an object is in flight
    flies : (heap : List HeapObject) (o : ℕ) → IsRaised form.code
        → (IsNode p (node_of (throws o point).top Thrown) → Came p reach point heap (node_of (throws o point).top Thrown) o)
        → Stays heap (throws o point).top
    flies heap o raises anew = throws_moves p reach point form unraised o raises _ (λ to x e edge. flowed (by_slot to e) edge) anew

    thrown_edge : (v : Var) → HasVar form.method form.code false v → IsThrownBy form.code v → (o : ℕ) → IsNode p (node_of (throws o point).top Thrown)
        → IsEdge p reach (node_in f v) Flow (node_of (throws o point).top Thrown)
    thrown_edge v has thrown o node = edge p reach point form v (var_node p reach point form unraised v has) (throws o point).top refl
        false true unraised refl Thrown node (refl, inr (thrown, refl))

    pub stays_throws : (o : ℕ) → CanThrow p point form.method form.code o → Stays point.heap (throws o point).top
    stays_throws o can = flies point.heap o can.raises (λ node. flowed can.from.stands (thrown_edge can.from.var can.from.has can.from.fact o node))

    -- an exception is raised
    pub stays_raises : (kind class : ℕ) → MayRaise form.code kind → Stays (anew (site.Raised (place_of f) kind) class) (throws (length point.heap) point).top
    stays_raises kind class may = flies _ (length point.heap) (may_raise form.code kind may) (λ node.
        made refl (last (site.Raised (place_of f) kind) class (length point.heap) refl) (var_node p reach point form unraised (var.Raised kind) may, refl)
        (thrown_edge (var.Raised kind) may may (length point.heap) node))

    -- a method is entered
    pub enters : (g : Frame) (target : HasTarget p f.method f.index g.method) → CanEnter p point form.method form.code g target.receiver target.args
        → Enters p reach point g
    enters g target can =
        let begins : place_of g ≡ before g.method 0 =
        ap (λ (n : ℕ). record { method = g.method; index = n; raised = g.raised }) can.begins.0
        ∙ ap (λ (r : Bool). record { method = g.method; index = 0; raised = r }) can.begins.1 in
        record {
          shaped = can.shaped;
          begins = begins;
          slots = λ to x e.
              let by = can.from to x e in (
                by.var,
                by.stands,
                record {
                  from = var_node p reach point form unraised by.var by.has;
                  to = has_node p g can.shaped to (Object x) e;
                  row = record { from = refl; unraised = unraised; target = target; begins = begins; passes = by.fact };
                },
              );
        }

  -- a handler takes the exception over
  pub stays_catches : f.raised ≡ true → (handler o : ℕ) → f.thrown ≡ Some (Object o) → Handles form.method.catches f.index handler
      → Stays point.heap (catches handler o point).top
  stays_catches raised handler o thrown handles =
      record { shaped = shaped; method = refl; this = refl; params = refl; locals = λ y. inl refl; slots = slots }
    where
      g : Frame
      g = (catches handler o point).top

      below : handler < length form.method.code
      below = subst (λ n. n < length form.method.code) (sym handles.3)
          (at_all (FitsCatch p form.method) form.method.catches handles.1.0 handles.0 fits.catches handles.1.1).1

      there : (c : Code) × (slice_get form.method.code handler ≡ Some c)
      there = slice_get-there form.method.code handler below

      shaped : IsShaped p g
      shaped = record {
        method = form.method;
        there = form.there;
        code = there.0;
        here = there.1;
        stands = tt;
        locals = form.locals;
        params = form.params;
        this = form.this;
        thrown = λ e. refl;
        flies = λ e. cc;
      }

      along : (from to : Slot) (x : ℕ) → slot_of f from ≡ Some (Object x) → slot_of g to ≡ Some (Object x)
          → FlowsIn form.method form.code f.index true (var_of from) handler false (var_of to)
          → Came p reach point point.heap (node_of g to) x
      along from to x e e_too flows = flowed (by_slot from e) (edge p reach point form (var_of from) (has_node p f form from (Object x) e) g refl
          true false raised refl to (has_node p g shaped to (Object x) e_too) flows)

      slots : (to : Slot) (x : ℕ) → slot_of g to ≡ Some (Object x) → Came p reach point point.heap (node_of g to) x
      slots (Local y) x e = along (Local y) (Local y) x e e (handles, refl)
      slots This x e = along This This x e e (handles, refl)
      slots (Param i) x e = along (Param i) (Param i) x e e (handles, refl)
      slots Caught x e = along Thrown Caught x (thrown ∙ e) e (handles, refl)
      slots Thrown x e = cc (e)
