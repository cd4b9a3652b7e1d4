-- What is asked of a place, and answered by what is told of its node: by `points-to`, `explain` and `demo`, and by each query of a batch.
use Rattle.std.specs.Prelude.{◌≡◌, ℕ, ◌≤◌, ◌⊎◌, List, [], ◌∷◌, Option}
use Rattle.link_rules.specs.Linked.{LinkedProgram}
use Rattle.link_sites.specs.declared.site.Site.{Site}
use Rattle.spds_rules.specs.declared.node.Node.{Node}
use Rattle.query_core.specs.Answers.{IsAffordable, IsAnswerTo, IsOver}
use Rattle.query_core.specs.Places.{IsMissing, IsPlaceOf}
use Rattle.query_core.specs.declared.places.Which.{Which}
use Rattle.boom_words.specs.Requests.{PointsTo}
use Rattle.report_text.specs.Lines.{text_of}
use Rattle.boom_top.specs.Printed.{PrintsAllRuns}
use Rattle.boom_top.specs.Refusals.{IsRefusedBy}
use Rattle.boom_top.specs.declared.status.Status.{Status}
use Rattle.boom_top.specs.declared.status.Status.TheVariants.{Done, NoSuchPlace, OverBudget}

-- the answer about a node within the budget, which is told by its sites and the size of its demand
pub record IsAnswered (p : LinkedProgram) (Tells : Node → List Site → ℕ → List ℕ → Type 0) (budget : ℕ) (n : Node) (lines : List (List ℕ)) : Type 0 where
  pub sites : List Site
  pub demanded : ℕ
  pub answer : IsAnswerTo p n sites demanded
  pub affordable : demanded ≤ budget
  pub told : Tells n sites demanded (text_of lines)

-- about nodes of a linked program: their demand is over the budget, or they are answered
abbrev pub IsBudgetReply : LinkedProgram → List Node → ℕ → (List (List ℕ) → Type 0) → Status → List (List ℕ) → Type 0
IsBudgetReply p nodes budget Answers status lines = (IsOver p nodes budget × IsRefusedBy (OverBudget budget) status lines)
    ⊎ (Answers lines × (status ≡ Done))

-- about a place of a linked program: a part of it is missing, or it is there
abbrev pub IsPlaceReply : LinkedProgram → PointsTo → (Node → List Site → ℕ → List ℕ → Type 0) → Status → List (List ℕ) → Type 0
IsPlaceReply p asked Tells status lines =
    ((which : Which) × IsMissing p asked.method asked.index asked.local which × IsRefusedBy (NoSuchPlace which) status lines)
    ⊎ ((n : Node) × IsPlaceOf p asked.method asked.index asked.local n
    × IsBudgetReply p (n ∷ []) asked.budget (IsAnswered p Tells asked.budget n) status lines)

-- the place is there, and the budget is at least the size of its demand
abbrev pub IsWithin : LinkedProgram → PointsTo → Type 0
IsWithin p asked = (n : Node) × IsPlaceOf p asked.method asked.index asked.local n × IsAffordable p (n ∷ []) asked.budget

-- the answer about the place covers each run
abbrev pub CoversPlace : LinkedProgram → PointsTo → Option (List ℕ) → Option (List ℕ) → Type 0
CoversPlace p asked old new = (n : Node) → IsPlaceOf p asked.method asked.index asked.local n → PrintsAllRuns p n old new
