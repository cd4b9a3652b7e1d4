-- What was written, and the line of each object that runs bring.
use Rattle.std.specs.Io.KnownBytes.{Appends}
use Rattle.std.specs.Prelude.{◌≡◌, ℕ, List, Option, Some, slice_get}
use Rattle.lists.specs.Lists.{Has}
use Rattle.link_rules.specs.Linked.{LinkedProgram}
use Rattle.spds_rules.specs.Nodes.{at}
use Rattle.spds_rules.specs.declared.node.Node.{Node}
use Rattle.spds_rules.specs.declared.node.Var.TheVariants.{Local}
use Rattle.step_rules.specs.Runs.{Run}
use Rattle.step_rules.specs.States.{Frame, HeapObject, State, place_of}
use Rattle.run_sound.specs.Simulated.{Holds}
use Rattle.report_text.specs.Answers.{IsSiteLine}
use Rattle.report_text.specs.Lines.{text_of}

-- one of the lines of a text
pub record HasLine (text line : List ℕ) : Type 0 where
  pub lines : List (List ℕ)
  pub text_is : text ≡ text_of lines
  pub has : Has lines line

-- a text with this line was written
abbrev pub Prints : Option (List ℕ) → Option (List ℕ) → List ℕ → Type 0
Prints before now line = (text : List ℕ) × Appends before now text × HasLine text line

-- In each run, of any length: where a frame, the top one or one that waits, stands at the node's place and its local holds an object, the line of the
-- object's site is among those that were written.
abbrev pub PrintsAllRuns : LinkedProgram → Node → Option (List ℕ) → Option (List ℕ) → Type 0
PrintsAllRuns p n old new = (count : ℕ) (s : State) (number : ℕ) (frame : Frame) (x o : ℕ) → Run p count s → Holds s number frame x o
    → n ≡ at (place_of frame) (Local x)
    → (object : HeapObject) × (slice_get s.heap o ≡ Some object) × (line : List ℕ) × IsSiteLine p object.site line × Prints old new line

-- In each run, of any length: where a frame, the top one or one that waits, stands at the node's place and its local holds an object, the line of the
-- object's site is one of the text.
abbrev pub TellsAllRuns : LinkedProgram → Node → List ℕ → Type 0
TellsAllRuns p n text = (count : ℕ) (s : State) (number : ℕ) (frame : Frame) (x o : ℕ) → Run p count s → Holds s number frame x o
    → n ≡ at (place_of frame) (Local x)
    → (object : HeapObject) × (slice_get s.heap o ≡ Some object) × (line : List ℕ) × IsSiteLine p object.site line × HasLine text line
