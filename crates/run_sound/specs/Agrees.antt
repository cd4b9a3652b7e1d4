-- What each state of a run has of its program, whatever is asked.
use Rattle.std.specs.Prelude.{◌≡◌, ℕ, ◌+◌, Some, false, true, slice_get}
use Rattle.lists.specs.Lists.{Has}
use Rattle.link_rules.specs.Linked.{LinkedMethod, LinkedProgram}
use Rattle.link_rules.specs.WellLinked.{HasTarget, IsInstantiableIn, IsRoot}
use Rattle.link_sites.specs.Sites.{HasField, IsSiteClass}
use Rattle.spds_rules.specs.Systems.{IsString}
use Rattle.step_rules.specs.declared.parts.Value.TheVariants.{Object}
use Rattle.step_rules.specs.Runs.{Run}
use Rattle.step_rules.specs.States.{Frame, HeapObject, State, Write}
use Rattle.run_sound.specs.Frames.{string_of}

-- the frame waits for the one above it: it stands, with nothing in flight, at a call that has the method of that one among its targets
abbrev pub WaitsFor : LinkedProgram → Frame → Frame → Type 0
WaitsFor p frame above = (frame.raised ≡ false) × HasTarget p frame.method frame.index above.method

-- the frames are the root's and those of calls, the string of each is one of its method, what is in flight is an object, and objects are as their sites
-- say
pub record Agrees (p : LinkedProgram) (s : State) : Type 0 where
  -- the first frame is the root's
  pub root : (frame : Frame) → slice_get s.frames 0 ≡ Some frame → (m : LinkedMethod) × IsRoot p frame.method m
  -- a frame right below another waits for that one
  pub waiting : (number : ℕ) (frame above : Frame) → slice_get s.frames number ≡ Some frame → slice_get s.frames (number + 1) ≡ Some above
      → WaitsFor p frame above
  -- where the frames below one wait is a call string of its method
  pub strings : (number : ℕ) (frame : Frame) → slice_get s.frames number ≡ Some frame → IsString p frame.method (string_of s.frames number)
  -- where an exception is in flight at a frame's statement, it is an object
  pub flying : (number : ℕ) (frame : Frame) → slice_get s.frames number ≡ Some frame → frame.raised ≡ true → (x : ℕ) × (frame.thrown ≡ Some (Object x))
  -- an object has the class of its site
  pub classes : (object : HeapObject) → Has s.heap object → IsSiteClass p object.site object.class
  -- that class is instantiable
  pub instantiable : (object : HeapObject) → Has s.heap object → IsInstantiableIn p object.class
  -- and only fields that the objects of its site have are written
  pub fields : (object : HeapObject) (write : Write) → Has s.heap object → Has object.writes write → HasField p object.site write.field

-- each state of a run, of any length, agrees with the program
abbrev pub RunsAgree : LinkedProgram → Type 0
RunsAgree p = (count : ℕ) (s : State) → Run p count s → Agrees p s
