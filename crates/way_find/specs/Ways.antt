-- Ways through a graph, told by the labels of their steps.
use Rattle.std.specs.Prelude.{ℕ, List, [], ◌∷◌, ◌++◌}
use Rattle.lists.specs.Lists.{Has}
use Rattle.way_find.specs.declared.ways.Step.{Step}

-- from one of the starts, steps with these labels lead here; the first label is that of the start
pub data Leads {V : Type 0} (Goes : V → ℕ → V → Type 0) (starts : List (Step V)) : List ℕ → V → Type 0 where
  start : (s : Step V) → Has starts s → Leads Goes starts (s.label ∷ []) s.to
  step : {labels : List ℕ} {a b : V} (label : ℕ) → Leads Goes starts labels a → Goes a label b → Leads Goes starts (labels ++ label ∷ []) b

-- they lead to a goal
abbrev pub LeadsToGoal : {V : Type 0} → (V → ℕ → V → Type 0) → (V → Type 0) → List (Step V) → List ℕ → Type 0
LeadsToGoal {V} Goes IsGoal starts labels = (v : V) × Leads Goes starts labels v × IsGoal v
