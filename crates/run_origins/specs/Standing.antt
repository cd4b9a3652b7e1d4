-- What stands for an object where a frame stands.
use Rattle.std.specs.Prelude.{◌≡◌, ℕ, ◌+◌, ◌<◌, Some, length}
use Rattle.link_rules.specs.Linked.{LinkedProgram}
use Rattle.spds_rules.specs.declared.node.Node.{Node}
use Rattle.spds_rules.specs.declared.node.Var.{Var}
use Rattle.spds_rules.specs.declared.node.Var.TheVariants.{Text, Class}
use Rattle.spds_rules.specs.Nodes.{at}
use Rattle.step_rules.specs.declared.parts.Slot.{Slot}
use Rattle.step_rules.specs.declared.parts.Value.TheVariants.{Object}
use Rattle.step_rules.specs.Slots.{slot_of}
use Rattle.step_rules.specs.States.{Frame, place_of}
use Rattle.run_sound.specs.Frames.{var_of}

-- the variable stands for the object: a slot of the frame holds it, or it is that of a constant
pub data StandsFor (p : LinkedProgram) (f : Frame) (x : ℕ) : Var → Type 0 where
  slot : (from : Slot) → slot_of f from ≡ Some (Object x) → StandsFor p f x (var_of from)
  text : {i : ℕ} → i < length p.texts → x ≡ i → StandsFor p f x (Text i)
  class : {i : ℕ} → i < length p.class_texts → x ≡ length p.texts + i → StandsFor p f x (Class i)

-- its node
abbrev pub node_at : Frame → Var → Node
node_at f v = at (place_of f) v
