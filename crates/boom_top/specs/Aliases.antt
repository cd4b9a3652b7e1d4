-- What `alias` is answered: the status and the lines, when it is answered, what it covers, and its evidence.
use Rattle.std.specs.Io.KnownBytes.{Appends}
use Rattle.std.specs.Prelude.{◌≡◌, ℕ, ◌≤◌, ◌⊎◌, List, [], ◌∷◌, Option, Some, codes, slice_get}
use Rattle.lists.specs.Lists.{Has}
use Rattle.link_rules.specs.Linked.{LinkedProgram}
use Rattle.link_sites.specs.declared.site.Site.{Site}
use Rattle.spds_rules.specs.Answers.{IsShared}
use Rattle.spds_rules.specs.Demand.{asked}
use Rattle.spds_rules.specs.Nodes.{at}
use Rattle.spds_rules.specs.declared.node.Node.{Node}
use Rattle.spds_rules.specs.declared.node.Var.TheVariants.{Local}
use Rattle.step_rules.specs.Runs.{Run}
use Rattle.step_rules.specs.States.{Frame, HeapObject, State, place_of}
use Rattle.run_sound.specs.Simulated.{Holds}
use Rattle.query_core.specs.Answers.{AreSharedBy, IsAffordable}
use Rattle.query_core.specs.Places.{ArePlacesOf, IsMissingOfTwo}
use Rattle.query_core.specs.declared.places.Which.{Which}
use Rattle.boom_words.specs.Requests.{Alias}
use Rattle.report_text.specs.Aliases.{IsAliasText, IsSharedLine}
use Rattle.report_text.specs.Lines.{text_of}
use Rattle.boom_top.specs.Places.{IsBudgetReply}
use Rattle.boom_top.specs.Printed.{Prints}
use Rattle.boom_top.specs.Refusals.{IsRefusedBy}
use Rattle.boom_top.specs.declared.status.Status.{Status}
use Rattle.boom_top.specs.declared.status.Status.TheVariants.{NoSuchPlace}

-- what two nodes share, within the budget
pub record AreAliased (p : LinkedProgram) (budget : ℕ) (a b : Node) (lines : List (List ℕ)) : Type 0 where
  pub sites : List Site
  pub demanded : ℕ
  pub shared : AreSharedBy p a b sites demanded
  pub affordable : demanded ≤ budget
  pub told : IsAliasText p a b sites demanded (text_of lines)

-- about two locals at a place: a part of it is missing, or both are there
abbrev pub IsAliasReply : LinkedProgram → Alias → Status → List (List ℕ) → Type 0
IsAliasReply p asked status lines =
    ((which : Which) × IsMissingOfTwo p asked.method asked.index asked.first asked.second which × IsRefusedBy (NoSuchPlace which) status lines)
    ⊎ ((a : Node) × (b : Node) × ArePlacesOf p asked.method asked.index asked.first asked.second a b
    × IsBudgetReply p (a ∷ b ∷ []) asked.budget (AreAliased p asked.budget a b) status lines)

-- both locals are there, and the budget is at least the size of their demand
abbrev pub IsAliasWithin : LinkedProgram → Alias → Type 0
IsAliasWithin p asked = (a : Node) × (b : Node) × ArePlacesOf p asked.method asked.index asked.first asked.second a b
    × IsAffordable p (a ∷ b ∷ []) asked.budget

-- In each run, of any length: where a frame, the top one or one that waits, stands at the nodes' place and both its locals hold one object, the line that
-- says that they share the object's site is among those that were written, and so is that which says that they are aliases.
abbrev pub PrintsAllAliases : LinkedProgram → Node → Node → Option (List ℕ) → Option (List ℕ) → Type 0
PrintsAllAliases p a b old new = (count : ℕ) (s : State) (number : ℕ) (frame : Frame) (x y o : ℕ) → Run p count s → Holds s number frame x o
    → Holds s number frame y o → a ≡ at (place_of frame) (Local x) → b ≡ at (place_of frame) (Local y)
    → Prints old new (codes "aliases yes")
    × ((object : HeapObject) × (slice_get s.heap o ≡ Some object) × (line : List ℕ) × IsSharedLine p object.site line × Prints old new line)

-- the answer about the two locals covers each run
abbrev pub CoversAliases : LinkedProgram → Alias → Option (List ℕ) → Option (List ℕ) → Type 0
CoversAliases p asked old new = (a b : Node) → ArePlacesOf p asked.method asked.index asked.first asked.second a b → PrintsAllAliases p a b old new

-- The answer about the two locals was written, and each site that it prints as shared is so: both systems have an object of it at both nodes, under one
-- call string. This is asked over what both nodes demand.
pub record PrintsShared (p : LinkedProgram) (of : Alias) (old new : Option (List ℕ)) : Type 0 where
  pub first : Node
  pub second : Node
  pub places : ArePlacesOf p of.method of.index of.first of.second first second
  pub sites : List Site
  pub demanded : ℕ
  pub text : List ℕ
  pub told : IsAliasText p first second sites demanded text
  pub wrote : Appends old new text
  pub shared : (o : Site) → Has sites o → IsShared p (asked (first ∷ second ∷ [])) first second o
