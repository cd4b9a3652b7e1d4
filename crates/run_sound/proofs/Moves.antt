-- How the top frame goes on: over its statement, or with an exception in flight there.
use Rattle.std.proofs.Common.{◌≡◌, ℕ, ◌+◌, ◌<◌, ◌⊎◌, Option, Some, Bool, true, false, List, length, slice_get, refl, sym, ap, ◌∙◌, subst, inl, inr}
use Rattle.std.specs.List.{slice_set}
use Rattle.std.proofs.lemmas.List.{length-set}
use Rattle.std.proofs.lemmas.Option.{same_Some}
use Rattle.lists.proofs.Places.{slice_get-there}
use Rattle.link_rules.specs.declared.code.Code.{Code}
use Rattle.link_rules.specs.Flow.{Next, IsRaised}
use Rattle.link_rules.specs.Linked.{LinkedMethod, LinkedProgram}
use Rattle.link_rules.specs.WellLinked.{FitsMethod}
use Rattle.link_sites.specs.Places.{CodeAt, HasCode}
use Rattle.spds_rules.specs.declared.edge.EdgeKind.TheVariants.{Flow}
use Rattle.spds_rules.specs.declared.node.Var.{Var}
use Rattle.spds_rules.specs.declared.reach.Reach.{Reach}
use Rattle.spds_rules.specs.Edges.{AssignsTo, FlowsIn, IsEdge}
use Rattle.spds_rules.specs.Nodes.{HasVar, IsNode, MayStand}
use Rattle.step_rules.specs.declared.parts.Slot.{Slot}
use Rattle.step_rules.specs.declared.parts.Slot.TheVariants.{Local, This, Param, Caught, Thrown}
use Rattle.step_rules.specs.declared.parts.Value.{Value}
use Rattle.step_rules.specs.declared.parts.Value.TheVariants.{Object}
use Rattle.step_rules.specs.Slots.{if_set, local_of, slot_of}
use Rattle.step_rules.specs.States.{Frame, Point, gets, goes_to, throws}
use Rattle.run_sound.specs.Frames.{node_of, var_of}
use Rattle.run_sound.proofs.Explained.{AssignsNone, node_in}
use Rattle.run_sound.proofs.Invariant.{IsShaped}
use Rattle.run_sound.proofs.Nodes.{has_node}
use Rattle.run_sound.proofs.Standing.{other_local, set_local}

-- no other statement stands there
pub same_code : (p : LinkedProgram) (f : Frame) (form : IsShaped p f) (c : Code) → CodeAt p f.method f.index c → form.code ≡ c
same_code p f form c at =
    let one = form.there in
    let two = at.there in
    let same : form.method ≡ at.method = cc in
    let first : slice_get at.method.code f.index ≡ Some form.code = subst (λ (m : LinkedMethod). slice_get m.code f.index ≡ Some form.code) same form.here in
    let second = at.here in
    cc

-- what is so of the statement
pub code_so : (p : LinkedProgram) (f : Frame) (form : IsShaped p f) (Fact : Code → Type 0) → Fact form.code → HasCode p f.method f.index Fact
code_so p f form Fact so = record { code = form.code; at = record { method = form.method; there = form.there; here = form.here }; is_so = so }

module _ (p : LinkedProgram) (reach : Reach) (point : Point) (form : IsShaped p point.top) where
  abbrev f : Frame
  f = point.top

  -- f goes on as g, which has the same receiver and parameters, and the same locals but for one that the statement assigns. Of each object that a slot
  -- of g holds this is so
  pub record Moves (g : Frame) (Held : Slot → ℕ → Type 0) : Type 0 where
    pub shaped : IsShaped p g
    pub method : g.method ≡ f.method
    pub this : g.this ≡ f.this
    pub params : g.params ≡ f.params
    pub locals : (y : ℕ) → (local_of g y ≡ local_of f y) ⊎ ((f.raised ≡ false) × AssignsTo form.code y)
    pub slots : (to : Slot) (x : ℕ) → slot_of g to ≡ Some (Object x) → Held to x

  -- an edge to a slot of it
  pub edge : (v : Var) → IsNode p (node_in f v) → (g : Frame) → g.method ≡ f.method → (r s : Bool) → f.raised ≡ r → g.raised ≡ s → (to : Slot)
      → IsNode p (node_of g to) → FlowsIn form.method form.code f.index r v g.index s (var_of to)
      → IsEdge p reach (node_in f v) Flow (node_of g to)
  edge v from g same r s is is_too to node flows = record {
    from = from;
    to = node;
    row = record {
      same = same;
      method = form.method;
      there = form.there;
      code = form.code;
      here = form.here;
      flows = subst (λ (r : Bool). FlowsIn form.method form.code f.index r v g.index g.raised (var_of to)) (sym is)
          (subst (λ (s : Bool). FlowsIn form.method form.code f.index r v g.index s (var_of to)) (sym is_too) flows);
    };
  }

  -- what a slot held is so of it, as there is an edge
  abbrev pub Keeps : Frame → (Slot → ℕ → Type 0) → Type 0
  Keeps g Held = (to : Slot) (x : ℕ) → slot_of f to ≡ Some (Object x) → IsEdge p reach (node_of f to) Flow (node_of g to) → Held to x

  module _ (unraised : f.raised ≡ false) where
    -- a variable of the statement has a node
    pub var_node : (v : Var) → HasVar form.method form.code false v → IsNode p (node_in f v)
    var_node v has = record {
      method = form.method;
      there = form.there;
      code = form.code;
      here = form.here;
      stands = form.stands;
      has = subst (λ (r : Bool). HasVar form.method form.code r v) (sym unraised) has;
    }

    -- the frame goes on at a statement, with these locals
    goes_on : FitsMethod p form.method → (index : ℕ) (values : List (Option Value)) → Next form.code f.index index → length values ≡ length form.method.locals
        → (Held : Slot → ℕ → Type 0) → Keeps (record f { index = index; locals = values }) Held
        → ((y : ℕ) → (if_set (slice_get values y) ≡ local_of f y) ⊎ AssignsTo form.code y)
        → ((y x : ℕ) → if_set (slice_get values y) ≡ Some (Object x) → IsNode p (node_of (record f { index = index; locals = values }) (Local y))
        → ((local_of f y ≡ Some (Object x)) × (AssignsTo form.code y → ⊥)) ⊎ Held (Local y) x)
        → Moves (record f { index = index; locals = values }) Held
    goes_on fits index values next many Held keeps as_before each = record {
      shaped = shaped;
      method = refl;
      this = refl;
      params = refl;
      locals = λ y. elim (as_before y) [ inl same ↦ inl same | inr set ↦ inr (unraised, set) ];
      slots = slots;
    }
      where
        g : Frame
        g = record f { index = index; locals = values }

        there : (c : Code) × (slice_get form.method.code index ≡ Some c)
        there = slice_get-there form.method.code index (fits.stays f.index index form.code form.here next)

        shaped : IsShaped p g
        shaped = record {
          method = form.method;
          there = form.there;
          code = there.0;
          here = there.1;
          stands = subst (λ (r : Bool). MayStand there.0 r) (sym unraised) tt;
          locals = many;
          params = form.params;
          this = form.this;
          thrown = form.thrown;
          flies = form.flies;
        }

        same : (to : Slot) (x : ℕ) → slot_of f to ≡ Some (Object x) → slot_of g to ≡ Some (Object x)
            → FlowsIn form.method form.code f.index false (var_of to) index false (var_of to) → Held to x
        same to x e e_too flows = keeps to x e
            (edge (var_of to) (has_node p f form to (Object x) e) g refl false false unraised unraised to (has_node p g shaped to (Object x) e_too) flows)

        slots : (to : Slot) (x : ℕ) → slot_of g to ≡ Some (Object x) → Held to x
        slots (Local y) x e = elim (each y x e (has_node p g shaped (Local y) (Object x) e)) [
          | inl old ↦ same (Local y) x old.0 e (next, inl (old.1, refl))
          | inr anew ↦ anew
        ]
        slots This x e = same This x e e (next, inl (tt, refl))
        slots (Param i) x e = same (Param i) x e e (next, inl (tt, refl))
        slots Caught x e = same Caught x e e (next, inl (tt, refl))
        slots Thrown x e = let unset = form.thrown unraised in cc

    -- nothing is assigned
    pub goes_moves : FitsMethod p form.method → (index : ℕ) → Next form.code f.index index → AssignsNone form.code
        → (Held : Slot → ℕ → Type 0) → Keeps (goes_to index point).top Held
        → Moves (goes_to index point).top Held
    goes_moves fits index next none Held keeps =
        goes_on fits index f.locals next form.locals Held keeps (λ y. inl refl) (λ y x e node. inl (e, λ a. absurd (cc (none, a))))

    -- a local gets a value
    pub gets_moves : FitsMethod p form.method → (to : ℕ) (value : Value) → Next form.code f.index (f.index + 1) → AssignsTo form.code to
        → to < length form.method.locals
        → (Held : Slot → ℕ → Type 0) → Keeps (gets to value point).top Held
        → ((x : ℕ) → value ≡ Object x → IsNode p (node_of (gets to value point).top (Local to)) → Held (Local to) x)
        → Moves (gets to value point).top Held
    gets_moves fits to value next only below Held keeps anew =
        goes_on fits (f.index + 1) (slice_set f.locals to (Some value)) next (length-set f.locals to (Some value) ∙ form.locals) Held keeps
        (λ y. elim (other_local f.locals to y (Some value)) [ inl same ↦ inl same | inr set ↦ inr (only ∙ ap Some (sym set)) ])
        (λ y x e node. elim (set_local f.locals to y value (Object x) (subst (λ n. to < n) (sym form.locals) below) e) [
          | inl set ↦
              let at_to = subst (λ (y : ℕ). IsNode p (node_of (gets to value point).top (Local y))) set.0 node in
              inr (subst (λ (y : ℕ). Held (Local y) x) (sym set.0) (anew x set.1 at_to))
          | inr kept ↦ inl (kept.1, λ a. kept.0 (same_Some y to (sym a ∙ only)))
        ])

    -- an object is in flight at the statement
    pub throws_moves : (o : ℕ) → IsRaised form.code → (Held : Slot → ℕ → Type 0) → Keeps (throws o point).top Held
        → (IsNode p (node_of (throws o point).top Thrown) → Held Thrown o)
        → Moves (throws o point).top Held
    throws_moves o raised Held keeps anew =
        record { shaped = shaped; method = refl; this = refl; params = refl; locals = λ y. inl refl; slots = slots }
      where
        g : Frame
        g = (throws o point).top

        shaped : IsShaped p g
        shaped = record {
          method = form.method;
          there = form.there;
          code = form.code;
          here = form.here;
          stands = raised;
          locals = form.locals;
          params = form.params;
          this = form.this;
          thrown = λ e. cc;
          flies = λ e. (o, refl);
        }

        same : (to : Slot) (x : ℕ) → slot_of f to ≡ Some (Object x) → slot_of g to ≡ Some (Object x)
            → FlowsIn form.method form.code f.index false (var_of to) f.index true (var_of to) → Held to x
        same to x e e_too flows = keeps to x e
            (edge (var_of to) (has_node p f form to (Object x) e) g refl false true unraised refl to (has_node p g shaped to (Object x) e_too) flows)

        slots : (to : Slot) (x : ℕ) → slot_of g to ≡ Some (Object x) → Held to x
        slots (Local y) x e = same (Local y) x e e (refl, inl (tt, refl))
        slots This x e = same This x e e (refl, inl (tt, refl))
        slots (Param i) x e = same (Param i) x e e (refl, inl (tt, refl))
        slots Caught x e = same Caught x e e (refl, inl (tt, refl))
        slots Thrown x e = let is : o ≡ x = cc (e) in subst (Held Thrown) is (anew (has_node p g shaped Thrown (Object o) refl))
