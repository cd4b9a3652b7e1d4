-- What a query answers, and what that says of runs.
use Rattle.std.specs.Prelude.{◌≡◌, ℕ, List, [], ◌∷◌, Some, slice_get}
use Rattle.lists.specs.Lists.{Has, Counts, HasMore}
use Rattle.link_rules.specs.Linked.{LinkedProgram}
use Rattle.link_sites.specs.declared.site.Site.{Site}
use Rattle.spds_rules.specs.declared.node.Node.{Node}
use Rattle.spds_rules.specs.declared.node.Var.TheVariants.{Local}
use Rattle.spds_rules.specs.Answers.{AreAnswered, AreSites, IsShared}
use Rattle.spds_rules.specs.Demand.{Demand, about, asked}
use Rattle.spds_rules.specs.Nodes.{at}
use Rattle.demand_set.specs.Walks.{HasAtMost}
use Rattle.step_rules.specs.Runs.{Run}
use Rattle.step_rules.specs.States.{Frame, HeapObject, State, place_of}
use Rattle.run_sound.specs.Simulated.{Holds}

-- the sites of the node's answer, in the order in which they are printed, and how many nodes the query demands
pub record IsAnswerTo (p : LinkedProgram) (n : Node) (sites : List Site) (demanded : ℕ) : Type 0 where
  pub answer : AreAnswered p (about n) n sites
  pub size : Counts (Demand p (about n)) demanded

-- the sites that both nodes may hold under one call string, in the order in which they are printed, and how many nodes the query of both demands
pub record AreSharedBy (p : LinkedProgram) (a b : Node) (sites : List Site) (demanded : ℕ) : Type 0 where
  pub shared : AreSites p (IsShared p (asked (a ∷ b ∷ [])) a b) sites
  pub size : Counts (Demand p (asked (a ∷ b ∷ []))) demanded

-- the query of the nodes demands more nodes than the budget allows
abbrev pub IsOver : LinkedProgram → List Node → ℕ → Type 0
IsOver p nodes budget = HasMore (Demand p (asked nodes)) budget

-- it demands no more
abbrev pub IsAffordable : LinkedProgram → List Node → ℕ → Type 0
IsAffordable p nodes budget = HasAtMost (Demand p (asked nodes)) budget

-- In each run, of any length: where a frame, the top one or one that waits, stands at the node's place and its local holds an object, the object's site is
-- in the list.
abbrev pub HoldsAllRuns : LinkedProgram → Node → List Site → Type 0
HoldsAllRuns p n sites = (count : ℕ) (s : State) (number : ℕ) (frame : Frame) (x o : ℕ) → Run p count s → Holds s number frame x o
    → n ≡ at (place_of frame) (Local x) → (object : HeapObject) × (slice_get s.heap o ≡ Some object) × Has sites object.site

-- In each run, of any length: where a frame, the top one or one that waits, stands at the nodes' place and both its locals hold one object, the object's
-- site is in the list.
abbrev pub SharesAllRuns : LinkedProgram → Node → Node → List Site → Type 0
SharesAllRuns p a b sites = (count : ℕ) (s : State) (number : ℕ) (frame : Frame) (x y o : ℕ) → Run p count s → Holds s number frame x o
    → Holds s number frame y o → a ≡ at (place_of frame) (Local x) → b ≡ at (place_of frame) (Local y)
    → (object : HeapObject) × (slice_get s.heap o ≡ Some object) × Has sites object.site
