-- The runs of the program that is left.
use Rattle.std.specs.Prelude.{ℕ, List}
use Rattle.lists.specs.Lists.{Has}
use Rattle.link_rules.specs.Linked.{LinkedProgram}
use Rattle.link_rules.specs.WellLinked.{IsWellLinked}
use Rattle.narrow_rules.specs.declared.kept.Kept.{Kept}
use Rattle.narrow_rules.specs.Narrowed.{IsNarrowed, KeepsTarget}
use Rattle.run_covers.specs.Covers.{IsCovered}
use Rattle.step_rules.specs.Effects.{Effect, calls}
use Rattle.step_rules.specs.Offers.{Offers}
use Rattle.step_rules.specs.Runs.{Run}
use Rattle.step_rules.specs.States.{Frame, Point, State, state_of}

-- in each run, of any length, a call that makes a frame makes it for a method that is among the targets that stay
abbrev pub IsCoveredByKept : LinkedProgram → List Kept → Type 0
IsCoveredByKept p kept = (count : ℕ) (at : Point) (offered : List Effect) (frame : Frame) → Run p count (state_of at) → Offers p at offered
    → Has offered (calls frame) → KeepsTarget p kept at.top.method at.top.index frame.method

-- two programs reach the same states in as many steps
pub record HaveSameRuns (p q : LinkedProgram) : Type 0 where
  pub to : (count : ℕ) (s : State) → Run p count s → Run q count s
  pub from : (count : ℕ) (s : State) → Run q count s → Run p count s

-- the program that is left has the runs of the first one, which its targets cover
abbrev pub NarrowedHasSameRuns : Type 0
NarrowedHasSameRuns = (p q : LinkedProgram) (kept : List Kept) → IsWellLinked p → IsNarrowed p kept q → IsCoveredByKept p kept
    → HaveSameRuns p q × IsCovered q
