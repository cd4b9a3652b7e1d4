-- A method is left, by a return or with an exception: the run ends, or the frame below goes on.
use Rattle.std.proofs.Common.{◌≡◌, ℕ, ◌+◌, ◌<◌, ◌⊎◌, ◌++◌, Option, Some, None, IfSome, Bool, true, false, List, [], ◌∷◌, length, refl, sym, ap, ◌∙◌, subst, inl, inr}
use Rattle.link_rules.specs.declared.code.Code.{Code}
use Rattle.link_rules.specs.declared.code.Code.TheVariants as code
use Rattle.link_rules.specs.Flow.{IsRaised, IsReturn, Next}
use Rattle.link_rules.specs.Linked.{LinkedProgram}
use Rattle.link_rules.specs.WellLinked.{FitsCode, FitsMethod, HasTarget, IsLocalOf, IsWellLinked}
use Rattle.link_sites.specs.Places.{CodeAt, HasCode, before, in_flight}
use Rattle.spds_rules.specs.declared.edge.EdgeKind.TheVariants as edge_kind
use Rattle.spds_rules.specs.declared.node.Var.{Var}
use Rattle.spds_rules.specs.declared.node.Var.TheVariants as var
use Rattle.spds_rules.specs.declared.reach.Reach.{Reach}
use Rattle.spds_rules.specs.Edges.{IsEdge}
use Rattle.spds_rules.specs.Formals.{assigned}
use Rattle.spds_rules.specs.Nodes.{IsNode}
use Rattle.step_rules.specs.declared.parts.Slot.{Slot}
use Rattle.step_rules.specs.declared.parts.Slot.TheVariants.{Local, Thrown}
use Rattle.step_rules.specs.declared.parts.Value.{Value}
use Rattle.step_rules.specs.declared.parts.Value.TheVariants.{Object}
use Rattle.step_rules.specs.Slots.{slot_of}
use Rattle.step_rules.specs.States.{Ending, Frame, Point, State, ended, gets, goes_on, ill_typed, place_of, state_of, stopped, throws, uncaught, under}
use Rattle.step_rules.specs.Steps.{Leaves, Receives, ReceivesAt, Returns}
use Rattle.run_sound.specs.Frames.{node_of}
use Rattle.run_sound.proofs.Explained.{CanReturn, Stands, by_slot, node_in}
use Rattle.run_sound.proofs.Invariant.{IsShaped}
use Rattle.run_sound.proofs.Moves.{Moves, code_so, gets_moves, goes_moves, same_code, throws_moves, var_node}
use Rattle.run_sound.proofs.Nodes.{has_node}
use Rattle.run_sound.proofs.Standing.{code_fits, form_fits}

-- the frame waits, unraised, at a call that has the method of the one above it among its targets
pub record IsCaller (p : LinkedProgram) (caller above : Frame) : Type 0 where
  pub form : IsShaped p caller
  pub unraised : caller.raised ≡ false
  pub target : HasTarget p caller.method caller.index above.method

module _ (p : LinkedProgram) (reach : Reach) (point : Point) where
  abbrev f : Frame
  f = point.top

  -- of an object that a slot of the caller holds, which goes on as g: it was there, or the top frame gave it back
  abbrev pub Back : Frame → Frame → Slot → ℕ → Type 0
  Back caller g to x = ((slot_of caller to ≡ Some (Object x)) × IsEdge p reach (node_of caller to) edge_kind.Flow (node_of g to))
      ⊎ ((v : Var) × Stands p f x v × IsEdge p reach (node_in f v) (edge_kind.Return (place_of caller)) (node_of g to))

  -- the caller goes on as g, just behind the call, or with an exception in flight there
  pub record ComesBack (new : State) : Type 0 where
    pub below : List Frame
    pub caller : Frame
    pub is_under : point.below ≡ below ++ caller ∷ []
    pub its : IsCaller p caller f
    pub g : Frame
    pub becomes : new ≡ state_of (under below g point)
    pub way : ((f.raised ≡ false) × HasCode p f.method f.index IsReturn × (place_of g ≡ before caller.method (caller.index + 1)))
        ⊎ ((f.raised ≡ true) × (place_of g ≡ in_flight caller.method caller.index))
    pub moves : Moves p reach (under below caller point) its.form g (Back caller g)

  -- what the state is after it
  abbrev pub Left : State → Type 0
  Left new = ((how : Ending) × (new ≡ stopped how point)) ⊎ ComesBack new

  module _ (well : IsWellLinked p) (form : IsShaped p f) (new : State) (below : List Frame) (caller : Frame) (is_under : point.below ≡ below ++ caller ∷ [])
      (its : IsCaller p caller f) where
    abbrev outer : Point
    outer = under below caller point

    abbrev target : HasTarget p caller.method caller.index f.method
    target = its.target

    abbrev call : Code
    call = code.Call target.to target.mode target.class target.key target.receiver target.args target.targets

    -- it stands at the call
    at_call : its.form.code ≡ call
    at_call = same_code p caller its.form _ (record { method = target.method; there = target.there; here = target.call })

    fits : FitsMethod p its.form.method
    fits = form_fits p well caller its.form

    -- behind which it goes on
    next : Next its.form.code caller.index (caller.index + 1)
    next = subst (λ (c : Code). Next c caller.index (caller.index + 1)) (sym at_call) refl

    -- with the local that takes the result
    takes : assigned its.form.code ≡ target.to
    takes = ap assigned at_call

    local_fits : (to : ℕ) → target.to ≡ Some to → to < length its.form.method.locals
    local_fits to is =
        let at : FitsCode p its.form.method call = subst (FitsCode p its.form.method) at_call (code_fits p well caller its.form) in
        subst (λ (o : Option ℕ). IfSome o (IsLocalOf its.form.method)) is at.0

    -- ---- a return

    module _ (unraised : f.raised ≡ false) (value : Option Value) (can : CanReturn p point form.method form.code value) where
      behind : (g : Frame) → place_of g ≡ place_of (goes_on outer).top → place_of g ≡ before caller.method (caller.index + 1)
      behind g same = same ∙ ap (λ (r : Bool). record { method = caller.method; index = caller.index + 1; raised = r }) its.unraised

      -- the result's edge
      result : (to : ℕ) (v : Value) (x : ℕ) → target.to ≡ Some to → value ≡ Some (Object x) → IsNode p (node_of (gets to v outer).top (Local to))
          → (w : Var) × Stands p f x w × IsEdge p reach (node_in f w) (edge_kind.Return (place_of caller)) (node_of (gets to v outer).top (Local to))
      result to v x is given node =
          let by = can.from x given in (
            by.var,
            by.stands,
            record {
              from = var_node p reach point form unraised by.var by.has;
              to = node;
              row = inl (record {
                unraised = its.unraised;
                target = target;
                gives = inl (record {
                  returned = code_so p f form _ by.fact;
                  unraised = unraised;
                  goes_on = behind (gets to v outer).top refl;
                  local = to;
                  taken = is;
                  is_local = refl;
                });
              });
            },
          )

      back : (g : Frame) → new ≡ state_of (under below g point) → place_of g ≡ place_of (goes_on outer).top
          → Moves p reach outer its.form g (Back caller g)
          → Left new
      back g becomes same moves = inr (record {
        below = below;
        caller = caller;
        is_under = is_under;
        its = its;
        g = g;
        becomes = becomes;
        way = inl (unraised, code_so p f form _ can.is_return, behind g same);
        moves = moves;
      })

      receives : (to : Option ℕ) (given : Option Value) → target.to ≡ to → value ≡ given → Receives to given outer new → Left new
      receives None given is same becomes = back (goes_on outer).top becomes refl
          (goes_moves p reach outer its.form its.unraised fits (caller.index + 1) next (takes ∙ is) _ (λ to x e edge. inl (e, edge)))
      receives (Some to) (Some v) is same becomes = back (gets to v outer).top becomes refl
          (gets_moves p reach outer its.form its.unraised fits to v next (takes ∙ is) (local_fits to is) _ (λ to x e edge. inl (e, edge))
          (λ x of node. inr (result to v x is (same ∙ ap Some of) node)))
      receives (Some to) None is same becomes = inl (ill_typed, becomes)

      receives_at : (c : Code) → CodeAt p caller.method caller.index c → ReceivesAt c value outer new → Left new
      receives_at (code.Call to mode class key receiver args targets) is_at becomes =
          let same = same_code p caller its.form _ is_at in
          receives to value (sym takes ∙ ap assigned same) refl becomes
      receives_at _ is_at becomes = absurd becomes

    -- ---- an exception

    escapes : f.raised ≡ true → (o : ℕ) → f.thrown ≡ Some (Object o) → new ≡ state_of (throws o outer) → Left new
    escapes raised o thrown becomes = inr (record {
      below = below;
      caller = caller;
      is_under = is_under;
      its = its;
      g = (throws o outer).top;
      becomes = becomes;
      way = inr (raised, refl);
      moves = throws_moves p reach outer its.form its.unraised o (subst IsRaised (sym at_call) tt) _ (λ to x e edge. inl (e, edge)) (λ node. inr (
        var.Thrown,
        by_slot Thrown thrown,
        record {
          from = has_node p f form Thrown (Object o) thrown;
          to = node;
          row = inl (record { unraised = its.unraised; target = target; gives = inr (record { raised = raised; at_call = refl; thrown = (refl, refl) }) });
        },
      ));
    })

  module _ (well : IsWellLinked p) (form : IsShaped p f)
      (callers : (below : List Frame) (caller : Frame) → point.below ≡ below ++ caller ∷ [] → IsCaller p caller f) (new : State) where
    pub returns : f.raised ≡ false → (value : Option Value) → CanReturn p point form.method form.code value → Returns p point value new → Left new
    returns unraised value can (inl root) = inl (ended, root.1)
    returns unraised value can (inr called) = receives_at well form new called.0 called.1 called.2 (callers called.0 called.1 called.2) unraised value can
        called.3.code called.3.at called.3.is_so

    pub leaves : f.raised ≡ true → (o : ℕ) → f.thrown ≡ Some (Object o) → Leaves point o new → Left new
    leaves raised o thrown (inl root) = inl (uncaught o, root.1)
    leaves raised o thrown (inr called) = escapes well form new called.0 called.1 called.2 (callers called.0 called.1 called.2) raised o thrown called.3
