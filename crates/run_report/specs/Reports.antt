-- The reply that tells how a run stands.
use Rattle.std.specs.Prelude.{◌≡◌, ℕ, ◌⊎◌, ◌++◌, List, [], ◌∷◌, Option, Some, None, Bool, true, false, codes, length, slice_get}
use Rattle.std.specs.Fmt.{decimal}
use Rattle.link_rules.specs.Linked.{LinkedMethod, LinkedProgram}
use Rattle.link_sites.specs.Sites.{IsSite}
use Rattle.report_text.specs.Lines.{AddsLine, text_of}
use Rattle.report_text.specs.Texts.{IsPlaceText, IsSiteText}
use Rattle.step_rules.specs.declared.parts.Value.{Value}
use Rattle.step_rules.specs.declared.parts.Value.TheVariants.{Null, Number, Object}
use Rattle.step_rules.specs.Shapes.{HasShape}
use Rattle.step_rules.specs.Slots.{local_of}
use Rattle.step_rules.specs.States.{Ending, Frame, HeapObject, State, ended, ill_typed, place_of, running, uncaught}
use Rattle.run_report.specs.Named.{IsRunTo}

-- each object of the heap has a site of the program
abbrev pub AreSited : LinkedProgram → List HeapObject → Type 0
AreSited p heap = (o : ℕ) (object : HeapObject) → slice_get heap o ≡ Some object → IsSite p object.site

-- what telling of a state takes, and each state of a run keeps: its objects have sites of the program, and its frames, and what was not caught, are in
-- form
pub record IsTellable (p : LinkedProgram) (s : State) : Type 0 where
  pub sited : AreSited p s.heap
  pub shape : HasShape p s

-- the text of an object of the heap: that of its site
pub record IsObjectText (p : LinkedProgram) (heap : List HeapObject) (o : ℕ) (text : List ℕ) : Type 0 where
  pub object : HeapObject
  pub there : slice_get heap o ≡ Some object
  pub is_text : IsSiteText p object.site text

-- the text of a value
abbrev pub IsValueText : LinkedProgram → List HeapObject → Value → List ℕ → Type 0
IsValueText p heap Null text = text ≡ codes "null"
IsValueText p heap Number text = text ≡ codes "number"
IsValueText p heap (Object o) text = IsObjectText p heap o text

-- the line of a local that is set: its name, and what it holds
pub record IsLocalLine (p : LinkedProgram) (heap : List HeapObject) (name : List ℕ) (value : Value) (line : List ℕ) : Type 0 where
  pub text : List ℕ
  pub is_text : IsValueText p heap value text
  pub line_is : line ≡ codes "local " ++ name ++ codes " " ++ text

-- the lines of the set ones among the first locals of a frame, in declared order
pub data LocalLines (p : LinkedProgram) (heap : List HeapObject) (frame : Frame) : List (List ℕ) → List (List ℕ) → Type 0 where
  none : LocalLines p heap frame [] []
  unset : {names lines : List (List ℕ)} (name : List ℕ) → LocalLines p heap frame names lines → local_of frame (length names) ≡ None
      → LocalLines p heap frame (names ++ name ∷ []) lines
  set : {names lines : List (List ℕ)} (name line : List ℕ) {value : Value} → LocalLines p heap frame names lines
      → local_of frame (length names) ≡ Some value → IsLocalLine p heap name value line → LocalLines p heap frame (names ++ name ∷ []) (lines ++ line ∷ [])

-- the lines of the set locals of a frame
pub record AreLocalLines (p : LinkedProgram) (heap : List HeapObject) (frame : Frame) (lines : List (List ℕ)) : Type 0 where
  pub method : LinkedMethod
  pub there : slice_get p.methods frame.method ≡ Some method
  pub are_lines : LocalLines p heap frame method.locals lines

-- what a line tells of what is in flight, if anything is
abbrev pub IsFlightText : LinkedProgram → List HeapObject → Bool → Option Value → List ℕ → Type 0
IsFlightText p heap false thrown text = text ≡ []
IsFlightText p heap true (Some (Object o)) text = (site : List ℕ) × IsObjectText p heap o site × (text ≡ codes " raised " ++ site)
IsFlightText p heap true _ text = ⊥

-- the line with the place of a frame, and with what is in flight there
pub record IsAtLine (p : LinkedProgram) (heap : List HeapObject) (frame : Frame) (line : List ℕ) : Type 0 where
  pub at : List ℕ
  pub flight : List ℕ
  pub at_is : IsPlaceText p (place_of frame) at
  pub flight_is : IsFlightText p heap frame.raised frame.thrown flight
  pub line_is : line ≡ codes "at " ++ at ++ flight

-- the lines of a run that goes on: where its top frame stands, and the set locals of that
pub record AreRunningLines (p : LinkedProgram) (s : State) (lines : List (List ℕ)) : Type 0 where
  pub below : List Frame
  pub top : Frame
  pub frames_are : s.frames ≡ below ++ top ∷ []
  pub at : List ℕ
  pub at_is : IsAtLine p s.heap top at
  pub locals : List (List ℕ)
  pub locals_are : AreLocalLines p s.heap top locals
  pub lines_are : lines ≡ codes "end running" ∷ at ∷ locals

-- the line of a run that an exception has ended, which no handler caught
pub record IsUncaughtLine (p : LinkedProgram) (heap : List HeapObject) (o : ℕ) (line : List ℕ) : Type 0 where
  pub text : List ℕ
  pub is_text : IsObjectText p heap o text
  pub line_is : line ≡ codes "end uncaught " ++ text

-- the lines with how a run stands
abbrev pub AreEndLinesBy : LinkedProgram → State → Ending → List (List ℕ) → Type 0
AreEndLinesBy p s running lines = AreRunningLines p s lines
AreEndLinesBy p s ended lines = lines ≡ codes "end ended" ∷ []
AreEndLinesBy p s (uncaught o) lines = (line : List ℕ) × IsUncaughtLine p s.heap o line × (lines ≡ line ∷ [])
AreEndLinesBy p s ill_typed lines = lines ≡ codes "end ill-typed" ∷ []

-- the lines that tell how a state has ended, or where it goes on
abbrev pub AreEndLines : LinkedProgram → State → List (List ℕ) → Type 0
AreEndLines p s lines = AreEndLinesBy p s s.ending lines

-- the reply about so many steps of the run that digits name: the entry, how many steps were made, and how the run stands
pub record IsRunText (p : LinkedProgram) (entry : List ℕ) (steps : ℕ) (digits : List ℕ) (text : List ℕ) : Type 0 where
  pub made : ℕ
  pub state : State
  pub run : IsRunTo p digits steps made state
  pub end_lines : List (List ℕ)
  pub are_end_lines : AreEndLines p state end_lines
  pub text_is : text ≡ text_of ((codes "run " ++ entry) ∷ (codes "steps " ++ decimal made) ∷ end_lines)

-- the text grew by the line of the local, where it is set, and else by nothing
abbrev pub AddsLocal : LinkedProgram → List HeapObject → Frame → ℕ → List ℕ → List ℕ → List ℕ → Type 0
AddsLocal p heap frame x name old new =
    ((value : Value) × (local_of frame x ≡ Some value) × AddsLine (IsLocalLine p heap name value) old new) ⊎ ((local_of frame x ≡ None) × (new ≡ old))
