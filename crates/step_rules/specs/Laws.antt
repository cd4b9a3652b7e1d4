-- What holds of steps and runs, whatever the program was linked from.
use Rattle.std.specs.Prelude.{◌≡◌, ℕ, ◌<◌}
use Rattle.link_rules.specs.Linked.{LinkedProgram}
use Rattle.link_rules.specs.WellLinked.{IsInForm}
use Rattle.step_rules.specs.Runs.{IsFirstState, Run}
use Rattle.step_rules.specs.Shapes.{HasShape}
use Rattle.step_rules.specs.States.{State, running}
use Rattle.step_rules.specs.Steps.{Choices, HasChoices, Step}

-- a state and a choice have at most one step
abbrev pub StepIsDetermined : Type 0
StepIsDetermined = (p : LinkedProgram) (s : State) (choice : ℕ) (new other : State) → IsInForm p → Step p s choice new → Step p s choice other → new ≡ other

-- a step has one number of choices
abbrev pub ChoicesAreDetermined : Type 0
ChoicesAreDetermined = (p : LinkedProgram) (s : State) (a b : ℕ) → IsInForm p → Choices p s a → Choices p s b → a ≡ b

-- each state of a run has the shape
abbrev pub RunsKeepShape : Type 0
RunsKeepShape = (p : LinkedProgram) (n : ℕ) (s : State) → IsInForm p → Run p n s → HasShape p s

-- each program has a first state
abbrev pub RunsBegin : Type 0
RunsBegin = (p : LinkedProgram) → IsInForm p → (s : State) × IsFirstState p s

-- a step is made from the state: it has a choice at least, and each choice leads to a state
pub record HasSteps (p : LinkedProgram) (s : State) : Type 0 where
  pub count : ℕ
  pub choices : HasChoices p s count
  pub not_none : 0 < count
  pub each : (choice : ℕ) → choice < count → (new : State) × Step p s choice new

-- each state of a run that hasn't ended has a step
abbrev pub RunsGoOn : Type 0
RunsGoOn = (p : LinkedProgram) (n : ℕ) (s : State) → IsInForm p → Run p n s → s.ending ≡ running → HasSteps p s
