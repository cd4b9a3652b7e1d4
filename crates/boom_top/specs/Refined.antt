-- What `refined` is answered: the status and the lines, when it is answered, what it covers, and its evidence.
use Rattle.std.specs.Io.KnownBytes.{Appends}
use Rattle.std.specs.Prelude.{◌≡◌, ℕ, ◌≤◌, ◌⊎◌, List, Option}
use Rattle.lists.specs.Lists.{Has}
use Rattle.link_rules.specs.Linked.{LinkedProgram}
use Rattle.link_sites.specs.declared.site.Site.{Site}
use Rattle.spds_rules.specs.Answers.{IsAnswered}
use Rattle.spds_rules.specs.Demand.{about}
use Rattle.spds_rules.specs.declared.node.Node.{Node}
use Rattle.cert_laws.specs.Shown.{IsShown}
use Rattle.query_core.specs.Places.{IsMissing, IsPlaceOf}
use Rattle.query_core.specs.declared.places.Which.{Which}
use Rattle.refined_query.specs.Answers.{IsRefinedAffordable, IsRefinedAnswer, IsRefinedOver}
use Rattle.boom_words.specs.Requests.{Refined}
use Rattle.report_text.specs.Answers.{IsRefinedText}
use Rattle.report_text.specs.Lines.{text_of}
use Rattle.boom_top.specs.Printed.{PrintsAllRuns}
use Rattle.boom_top.specs.Refusals.{IsRefusedBy}
use Rattle.boom_top.specs.declared.status.Status.{Status}
use Rattle.boom_top.specs.declared.status.Status.TheVariants.{Done, NoSuchPlace, OverBudget}

-- the answer about a node over the program that is left, within the budget, which is told
pub record IsRefinedTold (p : LinkedProgram) (asked : Refined) (n : Node) (lines : List (List ℕ)) : Type 0 where
  pub narrowed : ℕ
  pub sites : List Site
  pub demanded : ℕ
  pub answer : IsRefinedAnswer p asked.rounds asked.budget n narrowed sites demanded
  pub affordable : demanded ≤ asked.budget
  pub told : IsRefinedText p n narrowed sites demanded (text_of lines)

-- about a node of a linked program where calls are refined: its demand over the program that is left is over the budget, or it is answered
abbrev pub IsRefinedNodeReply : LinkedProgram → Refined → Node → Status → List (List ℕ) → Type 0
IsRefinedNodeReply p asked n status lines = (IsRefinedOver p asked.rounds asked.budget n × IsRefusedBy (OverBudget asked.budget) status lines)
    ⊎ (IsRefinedTold p asked n lines × (status ≡ Done))

-- about a place of a linked program where calls are refined: a part of it is missing in that program, or it is there
abbrev pub IsRefinedReply : LinkedProgram → Refined → Status → List (List ℕ) → Type 0
IsRefinedReply p asked status lines =
    ((which : Which) × IsMissing p asked.method asked.index asked.local which × IsRefusedBy (NoSuchPlace which) status lines)
    ⊎ ((n : Node) × IsPlaceOf p asked.method asked.index asked.local n × IsRefinedNodeReply p asked n status lines)

-- the place is there in the program that was read, and the budget is at least the size of its demand over the program that is left
abbrev pub IsRefinedWithin : LinkedProgram → Refined → Type 0
IsRefinedWithin p asked = (n : Node) × IsPlaceOf p asked.method asked.index asked.local n × IsRefinedAffordable p asked.rounds asked.budget n

-- the answer about the place covers each run of the program that was read
abbrev pub CoversRefined : LinkedProgram → Refined → Option (List ℕ) → Option (List ℕ) → Type 0
CoversRefined p asked old new = (n : Node) → IsPlaceOf p asked.method asked.index asked.local n → PrintsAllRuns p n old new

-- The answer about the place was written, and each site that it prints is evident over the program that is left: both systems have it at the node, and some
-- list of lines is certified.
pub record PrintsRefinedShown (p : LinkedProgram) (asked : Refined) (old new : Option (List ℕ)) : Type 0 where
  pub node : Node
  pub place : IsPlaceOf p asked.method asked.index asked.local node
  pub narrowed : ℕ
  pub sites : List Site
  pub demanded : ℕ
  pub answer : IsRefinedAnswer p asked.rounds asked.budget node narrowed sites demanded
  pub text : List ℕ
  pub told : IsRefinedText p node narrowed sites demanded text
  pub wrote : Appends old new text
  pub answered : (o : Site) → Has sites o → IsAnswered answer.left (about node) node o
  pub shown : (o : Site) → Has sites o → IsShown answer.left node o
