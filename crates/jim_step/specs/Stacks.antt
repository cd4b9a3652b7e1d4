-- What becomes of the frames of a machine.
use Rattle.std.specs.Prelude.{◌≡◌, ◌++◌, List, [], ◌∷◌}
use Rattle.jim_step.specs.declared.frame.Frame.{Frame as Kept}
use Rattle.jim_step.specs.Frames.{frames_of}
use Rattle.step_rules.specs.States.{Frame}

-- the fact holds of the top frame, if there is one
abbrev pub EachTop : (Frame → Type 0) → List Kept → Type 0
EachTop P frames = (below : List Frame) (top : Frame) → frames_of frames ≡ below ++ top ∷ [] → P top

-- the function is applied to the top frame, and the frames below stay
abbrev pub ChangesTop : (Frame → Frame) → List Kept → List Kept → Type 0
ChangesTop f old new = (below : List Frame) (top : Frame) → frames_of old ≡ below ++ top ∷ [] → frames_of new ≡ below ++ f top ∷ []
