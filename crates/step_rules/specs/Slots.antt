-- What is read of a state: slots, operands, fields and elements.
use Rattle.std.specs.Prelude.{◌≡◌, ℕ, zero, suc, ◌+◌, ◌==◌, List, [], ◌∷◌, Option, Some, None, filter, length, map, slice_get}
use Rattle.std.specs.List.{last_or}
use Rattle.lists.specs.Lists.{Has}
use Rattle.link_rules.specs.declared.code.Arg.{Arg}
use Rattle.link_rules.specs.declared.code.Arg.TheVariants as arg
use Rattle.link_rules.specs.Linked.{LinkedProgram}
use Rattle.step_rules.specs.declared.parts.Slot.{Slot}
use Rattle.step_rules.specs.declared.parts.Slot.TheVariants as slot
use Rattle.step_rules.specs.declared.parts.Value.{Value}
use Rattle.step_rules.specs.declared.parts.Value.TheVariants.{Null, Number, Object}
use Rattle.step_rules.specs.States.{Frame, HeapObject, State}

-- what is there, if it is set
abbrev pub if_set : Option (Option Value) → Option Value
if_set (Some value) = value
if_set None = None

-- what a local holds; none where it is unset
abbrev pub local_of : Frame → ℕ → Option Value
local_of frame x = if_set (slice_get frame.locals x)

-- what a slot holds; none where it is unset
abbrev pub slot_of : Frame → Slot → Option Value
slot_of frame (slot.Local x) = local_of frame x
slot_of frame slot.This = frame.this
slot_of frame (slot.Param i) = slice_get frame.params i
slot_of frame slot.Caught = frame.caught
slot_of frame slot.Thrown = frame.thrown

-- what an operand is. The heap begins with an object for each text, and then one for each class constant
abbrev pub operand_of : LinkedProgram → Frame → Arg → Option Value
operand_of p frame (arg.Local x) = local_of frame x
operand_of p frame arg.Number = Some Number
operand_of p frame arg.Null = Some Null
operand_of p frame (arg.Text i) = Some (Object i)
operand_of p frame (arg.Class i) = Some (Object (length p.texts + i))

-- a value before others
abbrev pub before_all : Option Value → Option (List Value) → Option (List Value)
before_all (Some value) (Some values) = Some (value ∷ values)
before_all _ _ = None

-- what operands are; none where one of them is an unset local
abbrev pub operands_of : LinkedProgram → Frame → List Arg → Option (List Value)
operands_of p frame [] = Some []
operands_of p frame (a ∷ rest) = before_all (operand_of p frame a) (operands_of p frame rest)

-- all that was written into a field, the oldest first
abbrev pub values_of : HeapObject → ℕ → List Value
values_of object field = map (λ w. w.value) (filter (λ w. w.field == field) object.writes)

-- the elements that an array may have: each that was written counts, whichever its index
abbrev pub cells : HeapObject → List Value
cells object = values_of object 0

-- the value, or null where there is none
abbrev pub or_null : Option Value → Value
or_null (Some value) = value
or_null None = Null

-- the value of a field: what was written last, and else null
abbrev pub field_of : HeapObject → ℕ → Value
field_of object field = or_null (last_or None (values_of object field))

-- the field of the object leads to the value: one of its elements for the field 0, else the field's value
abbrev pub LeadsTo : HeapObject → ℕ → Value → Type 0
LeadsTo object zero value = Has (cells object) value
LeadsTo object (suc field) value = field_of object (suc field) ≡ value

-- the fields of the word, one after the other, lead from an object to another
pub data Follows (heap : List HeapObject) : ℕ → List ℕ → ℕ → Type 0 where
  here : {o : ℕ} → Follows heap o [] o
  through : {o field next last : ℕ} {word : List ℕ} {object : HeapObject} → slice_get heap o ≡ Some object → LeadsTo object field (Object next)
      → Follows heap next word last → Follows heap o (field ∷ word) last

-- the slot of the frame with this number holds an object, from which the word leads to the object o
pub record Path (s : State) (number : ℕ) (from : Slot) (word : List ℕ) (o : ℕ) : Type 0 where
  pub frame : Frame
  pub there : slice_get s.frames number ≡ Some frame
  pub object : ℕ
  pub holds : slot_of frame from ≡ Some (Object object)
  pub follows : Follows s.heap object word o
