-- The frames of a machine.
use Rattle.std.specs.Prelude.{ℕ, List, [], Option, None, false, map, replicate}
use Rattle.jim_step.specs.declared.frame.Frame.{Frame as Kept}
use Rattle.step_rules.specs.declared.parts.Value.{Value}
use Rattle.step_rules.specs.States.{Frame, HeapObject, Point}

-- the frame that a kept one stands for
abbrev pub frame_of : Kept → Frame
frame_of k = record {
  method = k.place.method;
  index = k.place.index;
  raised = k.place.raised;
  locals = k.locals.items;
  this = k.this;
  params = k.params.items;
  caught = k.caught;
  thrown = k.thrown;
}

abbrev pub frames_of : List Kept → List Frame
frames_of frames = map frame_of frames

-- the frame of a call of a method with so many locals
abbrev pub new_frame_of : ℕ → ℕ → Option Value → List Value → Frame
new_frame_of number count this args = record {
  method = number;
  index = 0;
  raised = false;
  locals = replicate count None;
  this = this;
  params = args;
  caught = None;
  thrown = None;
}

-- a state seen from its top frame, whatever waits below
abbrev pub seen : Frame → List HeapObject → List Value → Point
seen top heap statics = record { below = []; top = top; heap = heap; statics = statics }
