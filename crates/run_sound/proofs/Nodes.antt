-- Slots that hold something have nodes.
use Rattle.std.proofs.Common.{◌≡◌, ℕ, ◌<◌, Option, Some, None, Bool, true, false, is_some, length, slice_get, refl, sym, ap, ◌∙◌, subst}
use Rattle.lists.proofs.Places.{slice_get-below, slice_get-there}
use Rattle.link_rules.specs.declared.code.Code.{Code}
use Rattle.link_rules.specs.declared.code.Code.TheVariants as code
use Rattle.link_rules.specs.Flow.{Next}
use Rattle.link_rules.specs.Linked.{LinkedMethod, LinkedProgram}
use Rattle.link_rules.specs.WellLinked.{FitsCode, IsWellLinked}
use Rattle.link_laws.proofs.Lists.{at_all}
use Rattle.link_sites.specs.Places.{CodeAt}
use Rattle.spds_rules.specs.declared.node.Node.{Node}
use Rattle.spds_rules.specs.declared.node.Var.{Var}
use Rattle.spds_rules.specs.Edges.{LoadsStatic}
use Rattle.spds_rules.specs.Nodes.{HasVar, IsNode, MayStand, at}
use Rattle.step_rules.specs.declared.parts.Slot.{Slot}
use Rattle.step_rules.specs.declared.parts.Slot.TheVariants.{Local, This, Param, Caught, Thrown}
use Rattle.step_rules.specs.declared.parts.Value.{Value}
use Rattle.step_rules.specs.Slots.{if_set, local_of, slot_of}
use Rattle.step_rules.specs.States.{Frame}
use Rattle.run_sound.specs.Frames.{node_of, var_of}
use Rattle.run_sound.specs.Simulated.{IsLoadedFrom}
use Rattle.run_sound.proofs.Invariant.{IsShaped}
use Rattle.run_sound.proofs.Standing.{method_fits}

-- a local that is set is one of the frame's
pub local_below : (f : Frame) (x : ℕ) (value : Value) → local_of f x ≡ Some value → x < length f.locals
local_below f x value e = by (slice_get f.locals x) refl e
  where
    by : (o : Option (Option Value)) → slice_get f.locals x ≡ o → if_set o ≡ Some value → x < length f.locals
    by (Some v) is e = slice_get-below f.locals x v is
    by None is e = cc

-- the variable of a slot that holds something stands at the frame's place
pub has_var : (p : LinkedProgram) (f : Frame) (shaped : IsShaped p f) (from : Slot) (value : Value) → slot_of f from ≡ Some value
    → HasVar shaped.method shaped.code f.raised (var_of from)
has_var p f shaped (Local x) value e = subst (λ n. x < n) shaped.locals (local_below f x value e)
has_var p f shaped This value e = sym shaped.this ∙ ap (λ (o : Option Value). is_some o) e
has_var p f shaped (Param i) value e = subst (λ n. i < n) shaped.params (slice_get-below f.params i value e)
has_var p f shaped Caught value e = tt
has_var p f shaped Thrown value e = by f.raised refl
  where
    by : (r : Bool) → f.raised ≡ r → HasVar shaped.method shaped.code r (var_of Thrown)
    by true is = tt
    by false is = let none : f.thrown ≡ None = shaped.thrown is in cc

-- so it has a node
pub has_node : (p : LinkedProgram) (f : Frame) → IsShaped p f → (from : Slot) (value : Value) → slot_of f from ≡ Some value → IsNode p (node_of f from)
has_node p f shaped from value e =
    record { method = shaped.method; there = shaped.there; code = shaped.code; here = shaped.here; stands = shaped.stands; has = has_var p f shaped from value e }

-- a variable that stands at a statement has a node there
pub node_at : (p : LinkedProgram) (number index : ℕ) (raised : Bool) (m : LinkedMethod) (c : Code) → slice_get p.methods number ≡ Some m
    → slice_get m.code index ≡ Some c → MayStand c raised → (v : Var) → HasVar m c raised v
    → IsNode p (at (record { method = number; index = index; raised = raised }) v)
node_at p number index raised m c there here stands v has =
    record { method = m; there = there; code = c; here = here; stands = stands; has = has }

module _ (p : LinkedProgram) (well : IsWellLinked p) where
  -- where a static field is loaded into there is a node
  loaded_by : (field : ℕ) (n : Node) (load : ℕ) (c : Code) → CodeAt p n.place.method load c → LoadsStatic c field n.var → Next c load n.place.index
      → n.place.raised ≡ false
      → IsNode p n
  loaded_by field n load (code.LoadStatic to f) code_at loads next unraised =
      let m = code_at.method in
      let fits = method_fits p well n.place.method m code_at.there in
      let fits_code = at_all (FitsCode p m) m.code load (code.LoadStatic to f) fits.codes code_at.here in
      let next_code = slice_get-there m.code n.place.index (fits.stays load n.place.index (code.LoadStatic to f) code_at.here next) in
      record {
        method = m;
        there = code_at.there;
        code = next_code.0;
        here = next_code.1;
        stands = subst (λ (r : Bool). MayStand next_code.0 r) (sym unraised) tt;
        has = subst (λ (v : Var). HasVar m next_code.0 n.place.raised v) (sym loads.1) fits_code.0;
      }
  loaded_by field n load other code_at loads next unraised = elim loads [ ]

  -- so the node of a local that a static field is loaded into is one
  pub loaded_node : (field : ℕ) (n : Node) → IsLoadedFrom p field n → IsNode p n
  loaded_node field n from = loaded_by field n from.load from.loads.code from.loads.at from.loads.is_so.0 from.loads.is_so.1 from.unraised
