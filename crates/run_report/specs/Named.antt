-- The run that a list of digits names.
use Rattle.std.specs.Prelude.{◌≡◌, ◌≢◌, ℕ, zero, suc, ◌-◌, ◌<◌, ◌≤◌, ◌⊎◌, List, [], ◌∷◌, drop, map, min}
use Rattle.link_rules.specs.Linked.{LinkedProgram}
use Rattle.step_rules.specs.Runs.{IsFirstState}
use Rattle.step_rules.specs.States.{State, running}
use Rattle.step_rules.specs.Steps.{HasChoices, Step}

-- which choice a step takes, and which digits are left: where it has more than one choice, that of the next digit, which counts as the last choice
-- where it is too large; the first choice where there is only one, which takes no digit, or no digit is left
abbrev pub Takes : ℕ → List ℕ → ℕ → List ℕ → Type 0
Takes count [] choice left = (choice ≡ 0) × (left ≡ [])
Takes count (digit ∷ digits) choice left =
    ((count ≤ 1) × (choice ≡ 0) × (left ≡ digit ∷ digits)) ⊎ ((1 < count) × (choice ≡ min digit (count - 1)) × (left ≡ digits))

-- the run that digits name: the state after so many steps, and the digits that are left then
pub data NamedRun (p : LinkedProgram) (digits : List ℕ) : ℕ → State → List ℕ → Type 0 where
  begins : {s : State} → IsFirstState p s → NamedRun p digits zero s digits
  goes_on : {steps count choice : ℕ} {s next : State} {unused left : List ℕ} → NamedRun p digits steps s unused → HasChoices p s count
      → Takes count unused choice left → Step p s choice next → NamedRun p digits (suc steps) next left

-- the state after so many steps of the run that digits name, or its last state where it ends sooner: after `made` steps
pub record IsRunTo (p : LinkedProgram) (digits : List ℕ) (steps made : ℕ) (s : State) : Type 0 where
  pub unused : List ℕ
  pub run : NamedRun p digits made s unused
  pub within : made ≤ steps
  pub sooner : made < steps → s.ending ≢ running

-- the digits of decimal characters
abbrev pub digits_of : List ℕ → List ℕ
digits_of characters = map (λ c. c - 48) characters

-- one step of the run that digits name, from where so many of them are used
pub record NamedStep (p : LinkedProgram) (digits : List ℕ) (used : ℕ) (s : State) (used_then : ℕ) (next : State) : Type 0 where
  pub count : ℕ
  pub choice : ℕ
  pub has : HasChoices p s count
  pub takes : Takes count (drop used digits) choice (drop used_then digits)
  pub step : Step p s choice next
