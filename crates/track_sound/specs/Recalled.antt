-- The states of objects before the calls at which the frames of a run wait.
use Rattle.std.specs.Prelude.{ℕ, ◌-◌, ◌++◌, ltb, if◌then◌else◌, List, [], ◌∷◌, length, take}
use Rattle.link_rules.specs.Linked.{LinkedProgram}
use Rattle.step_rules.specs.Runs.{Run}
use Rattle.step_rules.specs.States.{State}
use Rattle.track_rules.specs.Protocols.{ProtocolParts}
use Rattle.track_runs.specs.Monitor.{Watched, begins, event, quiet}

-- over a step that leads from so many frames to so many: into a method, the states before it are recalled for the frame that now waits; where frames go,
-- what was recalled for those that now don't wait is forgotten
abbrev pub recalled_over : ℕ → ℕ → List ℕ → List (List ℕ) → List (List ℕ)
recalled_over old new states earlier = if ltb old new then earlier ++ states ∷ [] else take (new - 1) earlier

-- for each frame that waits, by its number, the states in which objects were before the event of its call
abbrev pub recalled : {p : LinkedProgram} {k : ProtocolParts} {count : ℕ} {s : State} {run : Run p count s} {states : List ℕ}
    → Watched p k count s run states → List (List ℕ)
recalled (begins first) = []
recalled (quiet {s} {next} {states} watched step none) = recalled_over (length s.frames) (length next.frames) states (recalled watched)
recalled (event {s} {next} {states} watched step is there row) = recalled_over (length s.frames) (length next.frames) states (recalled watched)
