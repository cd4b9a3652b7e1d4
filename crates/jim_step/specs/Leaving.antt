-- What a caller takes.
use Rattle.std.specs.Prelude.{◌≡◌, ℕ, ◌+◌, ◌<◌, ◌^◌, ◌++◌, List, [], ◌∷◌, Option, IfSome, length}
use Rattle.jim_step.specs.declared.frame.Frame.{Frame as Kept}
use Rattle.jim_step.specs.Frames.{frames_of}
use Rattle.link_rules.specs.declared.code.Code.{Code}
use Rattle.link_rules.specs.declared.code.Code.TheVariants.{Call}
use Rattle.link_rules.specs.Linked.{LinkedProgram}
use Rattle.link_sites.specs.Places.{HasCode}
use Rattle.step_rules.specs.States.{Frame}

-- the statement is a call, and this local takes what it returns
abbrev pub TakesFor : Option ℕ → Code → Type 0
TakesFor taker (Call to mode class key receiver args targets) = taker ≡ to
TakesFor taker _ = ⊥

-- the statement is a call, and the local that takes what it returns is one of the frame's
abbrev pub TakesIn : Frame → Code → Type 0
TakesIn frame (Call to mode class key receiver args targets) = IfSome to (λ x. x < length frame.locals)
TakesIn frame _ = ⊥

-- a frame stands at a call and may go on behind it
abbrev pub CanTake : LinkedProgram → Frame → Type 0
CanTake p frame = HasCode p frame.method frame.index (TakesIn frame) × (frame.index + 1 < 2 ^ 32)

-- the fact holds of the frame below the top one, if there is one
abbrev pub EachCaller : (Frame → Type 0) → List Kept → Type 0
EachCaller P frames = (below : List Frame) (caller top : Frame) → frames_of frames ≡ (below ++ caller ∷ []) ++ top ∷ [] → P caller
