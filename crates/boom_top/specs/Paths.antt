-- What `paths` is answered: the status and the lines, by the checks behind linking in their order, when it is answered, and what it covers.
use Rattle.std.specs.Prelude.{◌≡◌, ℕ, ◌≤◌, ◌⊎◌, List, Option, Some, slice_get}
use Rattle.link_rules.specs.Linked.{LinkedProgram}
use Rattle.link_sites.specs.declared.site.Site.{Site}
use Rattle.spds_rules.specs.Nodes.{at}
use Rattle.spds_rules.specs.declared.node.Node.{Node}
use Rattle.spds_rules.specs.declared.node.Var.TheVariants.{Local}
use Rattle.step_rules.specs.Runs.{Run}
use Rattle.step_rules.specs.Slots.{Path}
use Rattle.step_rules.specs.States.{HeapObject, State, place_of}
use Rattle.step_rules.specs.declared.parts.Slot.TheVariants as slot
use Rattle.query_core.specs.Places.{IsMissing, IsPlaceOf}
use Rattle.query_core.specs.declared.places.Which.{Which}
use Rattle.query_core.specs.declared.places.Which.TheVariants.{Field}
use Rattle.boom_words.specs.Requests.{Paths}
use Rattle.path_query.specs.Fields.{ArePathFields, LacksField}
use Rattle.path_query.specs.Paths.{IsPathAffordable, IsPathAnswer, IsPathOver}
use Rattle.report_text.specs.Answers.{IsSiteLine}
use Rattle.report_text.specs.Lines.{text_of}
use Rattle.report_text.specs.Paths.{IsPathText}
use Rattle.boom_top.specs.Printed.{Prints}
use Rattle.boom_top.specs.Refusals.{IsRefusedBy}
use Rattle.boom_top.specs.declared.status.Status.{Status}
use Rattle.boom_top.specs.declared.status.Status.TheVariants.{Done, NoSuchPlace, OverBudget}

-- what is at the end of the path, within the budget, which is told by its sites and the size of its demand
pub record IsPathTold (p : LinkedProgram) (asked : Paths) (n : Node) (fields : List ℕ) (lines : List (List ℕ)) : Type 0 where
  pub sites : List Site
  pub demanded : ℕ
  pub answer : IsPathAnswer p n fields sites demanded
  pub affordable : demanded ≤ asked.budget
  pub told : IsPathText p n asked.fields sites demanded (text_of lines)

-- about fields from a node: their demand is over the budget, or it is told where they lead
abbrev pub IsFieldsReply : LinkedProgram → Paths → Node → List ℕ → Status → List (List ℕ) → Type 0
IsFieldsReply p asked n fields status lines = (IsPathOver p n fields asked.budget × IsRefusedBy (OverBudget asked.budget) status lines)
    ⊎ (IsPathTold p asked n fields lines × (status ≡ Done))

-- about a node: one of the fields isn't there, or all are
abbrev pub IsPathFrom : LinkedProgram → Paths → Node → Status → List (List ℕ) → Type 0
IsPathFrom p asked n status lines = (LacksField p asked.fields × IsRefusedBy (NoSuchPlace Field) status lines)
    ⊎ ((fields : List ℕ) × ArePathFields p asked.fields fields × IsFieldsReply p asked n fields status lines)

-- about a place of a linked program: a part of it is missing, or it is there. The fields are looked for behind the place
abbrev pub IsPathReply : LinkedProgram → Paths → Status → List (List ℕ) → Type 0
IsPathReply p asked status lines =
    ((which : Which) × IsMissing p asked.method asked.index asked.local which × IsRefusedBy (NoSuchPlace which) status lines)
    ⊎ ((n : Node) × IsPlaceOf p asked.method asked.index asked.local n × IsPathFrom p asked n status lines)

-- the place and the fields are there, and the budget is at least the size of the demand
abbrev pub IsPathWithin : LinkedProgram → Paths → Type 0
IsPathWithin p asked = (n : Node) × (fields : List ℕ) × IsPlaceOf p asked.method asked.index asked.local n × ArePathFields p asked.fields fields
    × IsPathAffordable p n fields asked.budget

-- In each run, of any length: where a frame, the top one or one that waits, stands at the node's place and the fields lead from what its local holds to an
-- object, whether a load of them is demanded or not, the line of the object's site is among those that were written.
abbrev pub PrintsAllPaths : LinkedProgram → Node → List ℕ → Option (List ℕ) → Option (List ℕ) → Type 0
PrintsAllPaths p n fields old new = (count : ℕ) (s : State) (number x o : ℕ) → Run p count s → (path : Path s number (slot.Local x) fields o)
    → n ≡ at (place_of path.frame) (Local x)
    → (object : HeapObject) × (slice_get s.heap o ≡ Some object) × (line : List ℕ) × IsSiteLine p object.site line × Prints old new line

-- what is told of the path covers each run
abbrev pub CoversPath : LinkedProgram → Paths → Option (List ℕ) → Option (List ℕ) → Type 0
CoversPath p asked old new = (n : Node) (fields : List ℕ) → IsPlaceOf p asked.method asked.index asked.local n → ArePathFields p asked.fields fields
    → PrintsAllPaths p n fields old new
