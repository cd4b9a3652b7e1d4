-- What the formals of a method hold where it is left.
use Rattle.std.specs.Prelude.{◌≡◌, ℕ, ◌⊎◌, ◌++◌, List, [], ◌∷◌, Some, true, false, slice_get}
use Rattle.link_rules.specs.declared.code.Code.{Code}
use Rattle.link_rules.specs.Linked.{LinkedMethod, LinkedProgram}
use Rattle.link_rules.specs.WellLinked.{HasTarget}
use Rattle.link_sites.specs.Places.{CodeAt}
use Rattle.spds_rules.specs.declared.node.Var.TheVariants.{Local}
use Rattle.spds_rules.specs.Edges.{Passes}
use Rattle.spds_rules.specs.Formals.{formal}
use Rattle.step_rules.specs.declared.parts.Slot.{Slot}
use Rattle.step_rules.specs.declared.parts.Value.{Value}
use Rattle.step_rules.specs.Runs.{Run}
use Rattle.step_rules.specs.Slots.{local_of, slot_of}
use Rattle.step_rules.specs.States.{Frame, State}
use Rattle.run_sound.specs.Frames.{var_of}
use Rattle.track_systems.specs.Settled.{is_identity, is_settled}

-- the frame stands with an exception in flight, or at a statement that isn't an identity, as each at which a method may be left
abbrev pub IsBehind : LinkedProgram → Frame → Type 0
IsBehind p g = (g.raised ≡ true) ⊎ ((c : Code) × CodeAt p g.method g.index c × (is_identity c ≡ false))

-- a settled formal holds what was passed: where a method that was called may be left, the formal of a position at which the call passes a local of the
-- caller holds what this local holds, if it is settled
abbrev pub HoldsFormals : LinkedProgram → Type 0
HoldsFormals p = (count : ℕ) (s : State) (below : List Frame) (caller g : Frame) (method : LinkedMethod) (x : ℕ) (position : Slot) (value : Value)
    → Run p count s → s.frames ≡ (below ++ caller ∷ []) ++ g ∷ [] → slice_get p.methods g.method ≡ Some method → IsBehind p g
    → (target : HasTarget p caller.method caller.index g.method) → Passes target.receiver target.args (Local x) (var_of position)
    → is_settled method.code (var_of position) ≡ true → local_of caller x ≡ Some value
    → (held : Slot) × (var_of held ≡ formal method.code (var_of position)) × (slot_of g held ≡ Some value)
