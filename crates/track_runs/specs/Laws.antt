-- What holds of each run under a protocol.
use Rattle.std.specs.Prelude.{ℕ, ◌⊎◌, List}
use Rattle.link_rules.specs.Linked.{LinkedProgram}
use Rattle.step_rules.specs.Runs.{Run}
use Rattle.step_rules.specs.States.{State}
use Rattle.track_rules.specs.Protocols.{ProtocolParts}
use Rattle.track_runs.specs.Monitor.{IsBroken, Watched}

-- a run is watched to its end, or a step of it breaks the protocol
abbrev pub RunsAreWatched : Type 0
RunsAreWatched = (p : LinkedProgram) (k : ProtocolParts) (count : ℕ) (s : State) (run : Run p count s) → ((states : List ℕ) × Watched p k count s run states) ⊎ IsBroken p k count s run
