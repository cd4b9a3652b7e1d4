-- What a plan lists.
use Rattle.std.specs.Prelude.{ℕ, ◌⊎◌, ◌+◌, ◌<◌, ◌≤◌, ◌^◌, ◌++◌, List, [], ◌∷◌, Option, Some, None, length, map, slice_get}
use Rattle.std.specs.Option.{option_to_list}
use Rattle.jim_step.specs.declared.plan.Effect.{Effect as Planned}
use Rattle.jim_step.specs.declared.plan.Effect.TheVariants as planned
use Rattle.jim_step.specs.declared.plan.Plan.{Plan}
use Rattle.jim_step.specs.declared.plan.Plan.TheVariants as plan
use Rattle.jim_step.specs.Frames.{new_frame_of, seen}
use Rattle.link_rules.specs.declared.code.Catch.{Catch}
use Rattle.link_rules.specs.declared.code.Code.{Code}
use Rattle.link_rules.specs.declared.code.Code.TheVariants.{Call}
use Rattle.link_rules.specs.Linked.{LinkedMethod, LinkedProgram}
use Rattle.step_rules.specs.declared.parts.Value.{Value}
use Rattle.step_rules.specs.declared.parts.Value.TheVariants.{Null}
use Rattle.step_rules.specs.Effects.{Effect}
use Rattle.step_rules.specs.Effects as effect
use Rattle.step_rules.specs.Offers.{IsCaughtAt, MayCatch, Only}
use Rattle.step_rules.specs.Slots.{operands_of}
use Rattle.step_rules.specs.States.{Frame, HeapObject, Point}

abbrev pub locals_by : Option LinkedMethod → ℕ
locals_by (Some m) = length m.locals
locals_by None = 0

-- how many locals a method has; a number of none has none
abbrev pub locals_in : LinkedProgram → ℕ → ℕ
locals_in p number = locals_by (slice_get p.methods number)

abbrev pub or_empty : Option (List Value) → List Value
or_empty (Some values) = values
or_empty None = []

-- the arguments of a call; what is no call, or has one that is unset, has none
abbrev pub args_by : LinkedProgram → Frame → Option Code → List Value
args_by p top (Some (Call to mode class key receiver args targets)) = or_empty (operands_of p top args)
args_by p top _ = []

abbrev pub code_by : Option LinkedMethod → ℕ → Option Code
code_by (Some m) index = slice_get m.code index
code_by None index = None

-- the statement at which a frame stands
abbrev pub code_of : LinkedProgram → Frame → Option Code
code_of p top = code_by (slice_get p.methods top.method) top.index

-- the arguments of the call at which a frame stands
abbrev pub args_of : LinkedProgram → Frame → List Value
args_of p top = args_by p top (code_of p top)

-- the frame of a method that is called from the statement of a frame
abbrev pub called_frame : LinkedProgram → Frame → ℕ → Option Value → Frame
called_frame p top number this = new_frame_of number (locals_in p number) this (args_of p top)

-- the effect that a planned one stands for
abbrev pub meant : LinkedProgram → Frame → Planned → Effect
meant p top planned.IllTyped = effect.is_ill_typed
meant p top (planned.Raises kind) = effect.raises kind
meant p top (planned.Throws o) = effect.throws o
meant p top (planned.Goes index) = effect.goes index
meant p top (planned.Gets to value) = effect.gets to value
meant p top (planned.Makes to class) = effect.makes to class
meant p top (planned.Nests to o inner class) = effect.nests to o inner class
meant p top (planned.Writes o field value) = effect.writes o field value
meant p top (planned.Sets field value) = effect.sets field value
meant p top (planned.Calls number this) = effect.calls (called_frame p top number this)
meant p top (planned.Returns value) = effect.returns value
meant p top (planned.Handles index o) = effect.handles index o
meant p top (planned.Leaves o) = effect.leaves o

-- the effects of a load from an array that aren't elements, behind these
abbrev pub listed_behind : LinkedProgram → Frame → Option Planned → List Effect
listed_behind p top more = effect.raises 1 ∷ map (λ e. meant p top e) (option_to_list more)

-- the effects of a load from an array with these elements
abbrev pub listed_cells : LinkedProgram → Frame → ℕ → List Value → Option Planned → List Effect
listed_cells p top to cells more = effect.gets to Null ∷ map (λ cell. effect.gets to cell) cells ++ listed_behind p top more

-- the effects that a plan lists
abbrev pub listed : LinkedProgram → Frame → Plan → List Effect
listed p top (plan.One only) = meant p top only ∷ []
listed p top (plan.Two first second) = meant p top first ∷ meant p top second ∷ []
listed p top (plan.Three first second third) = meant p top first ∷ meant p top second ∷ meant p top third ∷ []
listed p top (plan.Cells to cells more) = listed_cells p top to cells.now more
listed p top (plan.Jumps jumps) = map (λ jump. effect.goes jump) jumps.now

-- how many choices a plan has
abbrev pub count_of : Plan → ℕ
count_of (plan.One only) = 1
count_of (plan.Two first second) = 2
count_of (plan.Three first second third) = 3
count_of (plan.Cells to cells more) = length cells.now + 2 + length (option_to_list more)
count_of (plan.Jumps jumps) = length jumps.now

-- a plan's choices have numbers
abbrev pub IsCountable : Plan → Type 0
IsCountable (plan.Cells to cells more) = length cells.now ≤ 4294967290
IsCountable (plan.Jumps jumps) = length jumps.now < 2 ^ 32
IsCountable _ = Unit {0}

-- the effects that the plan lists are offered
abbrev pub Lists : Plan → (List Effect → Type 0) → Type 0
Lists plan Row = (p : LinkedProgram) (top : Frame) → Row (listed p top plan)

-- the same, by the heap
abbrev pub ListsOver : List HeapObject → Plan → (Point → List Effect → Type 0) → Type 0
ListsOver heap plan Row = (p : LinkedProgram) (top : Frame) (statics : List Value) → Row (seen top heap statics) (listed p top plan)

-- an object of the class in flight at the statement of a method with these handlers
abbrev pub UnwindsBy : LinkedProgram → List Catch → ℕ → ℕ → ℕ → List Effect → Type 0
UnwindsBy p catches t o class offered = ((handler : ℕ) × IsCaughtAt p catches t class handler × Only (effect.handles handler o ∷ []) offered)
    ⊎ (((number : ℕ) → MayCatch p catches t class number → ⊥) × Only (effect.leaves o ∷ []) offered)
