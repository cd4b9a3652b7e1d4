-- What holds of the runs that digits name, whatever the program was linked from.
use Rattle.std.specs.Prelude.{◌≡◌, ℕ, List, []}
use Rattle.link_rules.specs.Linked.{LinkedProgram}
use Rattle.link_rules.specs.WellLinked.{IsInForm}
use Rattle.step_rules.specs.Runs.{Run}
use Rattle.step_rules.specs.States.{State}
use Rattle.run_report.specs.Named.{IsRunTo, NamedRun}

-- digits name one run: it makes one number of steps and leads to one state
abbrev pub NamedRunIsOne : Type 0
NamedRunIsOne = (p : LinkedProgram) (digits : List ℕ) (steps made others : ℕ) (s other : State) → IsInForm p → IsRunTo p digits steps made s
    → IsRunTo p digits steps others other → (made ≡ others) × (s ≡ other)

-- the run that digits name is one of the program's
abbrev pub NamedRunIsARun : Type 0
NamedRunIsARun = (p : LinkedProgram) (digits left : List ℕ) (count : ℕ) (s : State) → NamedRun p digits count s left → Run p count s

-- each run is named by the list of its choices, but for those of steps that have no other
abbrev pub RunsAreNamed : Type 0
RunsAreNamed = (p : LinkedProgram) (count : ℕ) (s : State) → Run p count s → (digits : List ℕ) × NamedRun p digits count s []
