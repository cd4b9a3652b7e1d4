-- The two pushdown systems simulate each run.
use Rattle.std.specs.Prelude.{◌≡◌, ℕ, ◌+◌, ◌<◌, List, Some, false, length, slice_get}
use Rattle.lists.specs.Lists.{Has}
use Rattle.link_rules.specs.Flow.{Next}
use Rattle.link_rules.specs.Linked.{LinkedProgram}
use Rattle.link_sites.specs.declared.place.Place.{Place}
use Rattle.link_sites.specs.declared.site.Site.{Site}
use Rattle.link_sites.specs.declared.site.Site.TheVariants as site
use Rattle.link_sites.specs.Places.{HasCode}
use Rattle.spds_rules.specs.declared.node.Node.{Node}
use Rattle.spds_rules.specs.Answers.{IsAnswered, IsShared}
use Rattle.spds_rules.specs.Demand.{Asked, Demand, FieldIn, StartIn}
use Rattle.spds_rules.specs.Edges.{LoadsStatic}
use Rattle.spds_rules.specs.Systems.{Calls, Fields, IsString}
use Rattle.step_rules.specs.declared.parts.Slot.{Slot}
use Rattle.step_rules.specs.declared.parts.Slot.TheVariants.{Local}
use Rattle.step_rules.specs.declared.parts.Value.TheVariants.{Object}
use Rattle.step_rules.specs.Runs.{Run}
use Rattle.step_rules.specs.Slots.{Follows, Path, slot_of}
use Rattle.step_rules.specs.States.{Frame, HeapObject, State}
use Rattle.run_sound.specs.Frames.{node_of, string_of}

-- the object is in the heap, and of its site the field system has the word at the node, and the call system the string
pub record IsFound (p : LinkedProgram) (q : Asked) (heap : List HeapObject) (n : Node) (word : List ℕ) (string : List Place) (o : ℕ) : Type 0 where
  pub object : HeapObject
  pub there : slice_get heap o ≡ Some object
  pub by_fields : Fields p q object.site n word
  pub by_calls : Calls p q object.site n string

-- each field of the word is demanded
abbrev pub AreDemanded : LinkedProgram → Asked → List ℕ → Type 0
AreDemanded p q word = (field : ℕ) → Has word field → FieldIn p q field

-- Whatever is asked, and wherever a run comes: where a slot of one of its frames has a demanded node, and a word of demanded fields leads from it to an
-- object, both systems have the object at the node, with that word and with the string of the frame.
abbrev pub IsSimulated : LinkedProgram → Type 0
IsSimulated p = (q : Asked) (count : ℕ) (s : State) (number : ℕ) (from : Slot) (word : List ℕ) (o : ℕ) → Run p count s
    → (path : Path s number from word o) → Demand p q (node_of path.frame from) → AreDemanded p q word
    → IsFound p q s.heap (node_of path.frame from) word (string_of s.frames number) o

-- the static field holds an object, from which the word leads to the object o
pub record StaticPath (s : State) (field : ℕ) (word : List ℕ) (o : ℕ) : Type 0 where
  pub object : ℕ
  pub holds : slice_get s.statics field ≡ Some (Object object)
  pub follows : Follows s.heap object word o

-- the node is that of a local which the static field is loaded into, just behind the load
pub record IsLoadedFrom (p : LinkedProgram) (field : ℕ) (n : Node) : Type 0 where
  pub load : ℕ
  pub unraised : n.place.raised ≡ false
  pub loads : HasCode p n.place.method load (λ c. LoadsStatic c field n.var × Next c load n.place.index)

-- the same of static fields, wherever they are loaded into. There both systems have the object whichever the string of the method
abbrev pub IsSimulatedInStatics : LinkedProgram → Type 0
IsSimulatedInStatics p = (q : Asked) (count : ℕ) (s : State) (field : ℕ) (n : Node) (word : List ℕ) (o : ℕ) (string : List Place) → Run p count s
    → StaticPath s field word o → IsLoadedFrom p field n → Demand p q n → AreDemanded p q word → IsString p n.place.method string
    → IsFound p q s.heap n word string o

-- the object of the constant of this site: those of texts come first in the heap, and then those of class constants
abbrev pub IsConstant : LinkedProgram → Site → ℕ → Type 0
IsConstant p (site.Text i) x = (x ≡ i) × (i < length p.texts)
IsConstant p (site.Class i) x = (x ≡ length p.texts + i) × (i < length p.class_texts)
IsConstant p _ x = ⊥

-- the same of constants, wherever they are handed on
abbrev pub IsSimulatedInConstants : LinkedProgram → Type 0
IsSimulatedInConstants p = (q : Asked) (count : ℕ) (s : State) (constant : Site) (x : ℕ) (n : Node) (word : List ℕ) (o : ℕ) (string : List Place)
    → Run p count s → IsConstant p constant x → StartIn p q constant n → Follows s.heap x word o → AreDemanded p q word
    → IsString p n.place.method string
    → IsFound p q s.heap n word string o

-- a local of a frame that stands at the node's place holds the object
pub record Holds (s : State) (number : ℕ) (frame : Frame) (x o : ℕ) : Type 0 where
  pub there : slice_get s.frames number ≡ Some frame
  pub holds : slot_of frame (Local x) ≡ Some (Object o)

-- so what a local holds, in the top frame or in one that waits, is of a site that the query of its node answers
abbrev pub IsAnswering : LinkedProgram → Type 0
IsAnswering p = (q : Asked) (count : ℕ) (s : State) (number : ℕ) (frame : Frame) (x o : ℕ) → Run p count s → Holds s number frame x o
    → Demand p q (node_of frame (Local x))
    → (object : HeapObject) × (slice_get s.heap o ≡ Some object) × IsAnswered p q (node_of frame (Local x)) object.site

-- and what two locals of one frame hold is of a site that both answer under one string
abbrev pub IsSharing : LinkedProgram → Type 0
IsSharing p = (q : Asked) (count : ℕ) (s : State) (number : ℕ) (frame : Frame) (x y o : ℕ) → Run p count s → Holds s number frame x o
    → Holds s number frame y o → Demand p q (node_of frame (Local x)) → Demand p q (node_of frame (Local y))
    → (object : HeapObject) × (slice_get s.heap o ≡ Some object) × IsShared p q (node_of frame (Local x)) (node_of frame (Local y)) object.site
