-- The slots of a run's frames as variables, and the call strings of frames.
use Rattle.std.specs.Prelude.{ℕ, List, map, reverse, take}
use Rattle.link_sites.specs.declared.place.Place.{Place}
use Rattle.spds_rules.specs.declared.node.Node.{Node}
use Rattle.spds_rules.specs.declared.node.Var.{Var}
use Rattle.spds_rules.specs.declared.node.Var.TheVariants.{Local, This, Param, Caught, Thrown}
use Rattle.spds_rules.specs.Nodes.{at}
use Rattle.step_rules.specs.declared.parts.Slot.{Slot}
use Rattle.step_rules.specs.declared.parts.Slot.TheVariants as slot
use Rattle.step_rules.specs.States.{Frame, place_of}

-- the variable that stands for a slot
abbrev pub var_of : Slot → Var
var_of (slot.Local x) = Local x
var_of slot.This = This
var_of (slot.Param i) = Param i
var_of slot.Caught = Caught
var_of slot.Thrown = Thrown

-- the node of a slot: its variable where the frame stands
abbrev pub node_of : Frame → Slot → Node
node_of frame from = at (place_of frame) (var_of from)

-- the places of the frames, the last first
abbrev pub places_of : List Frame → List Place
places_of frames = reverse (map place_of frames)

-- the call string of the frame with this number: where the frames below it wait, the innermost first
abbrev pub string_of : List Frame → ℕ → List Place
string_of frames number = places_of (take number frames)
