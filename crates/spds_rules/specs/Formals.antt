-- What statements assign, and as which variables a method has what calls pass to it.
use Rattle.std.specs.Prelude.{◌≡◌, ℕ, ◌==◌, Bool, false, if◌then◌else◌, List, [], ◌∷◌, Option, Some, None, count_by, filter_map, slice_get}
use Rattle.link_rules.specs.declared.code.Code.{Code}
use Rattle.link_rules.specs.declared.code.Code.TheVariants as code
use Rattle.link_rules.specs.Linked.{LinkedMethod, LinkedProgram}
use Rattle.spds_rules.specs.declared.node.Var.{Var}
use Rattle.spds_rules.specs.declared.node.Var.TheVariants.{Local, This, Param, Caught, Thrown, Made, Nested, Raised, Text, Class}

-- the local that a statement assigns
abbrev pub assigned : Code → Option ℕ
assigned (code.This to) = Some to
assigned (code.Param to number) = Some to
assigned (code.Caught to) = Some to
assigned (code.Copy to a) = Some to
assigned (code.Cast to a) = Some to
assigned (code.New to class) = Some to
assigned (code.NewArray to) = Some to
assigned (code.NewMulti to levels) = Some to
assigned (code.Numeric to divides) = Some to
assigned (code.Length to a) = Some to
assigned (code.Load to base field) = Some to
assigned (code.Store base field a) = None
assigned (code.LoadCell to base) = Some to
assigned (code.StoreCell base a) = None
assigned (code.LoadStatic to field) = Some to
assigned (code.StoreStatic field a) = None
assigned (code.Call to mode class key receiver args targets) = to
assigned (code.If jump) = None
assigned (code.Goto jump) = None
assigned (code.Switch jumps) = None
assigned (code.Return a) = None
assigned (code.Throw a) = None
assigned (code.Monitor a) = None
assigned code.Skip = None

-- whether it is this one
abbrev pub is_local : ℕ → Option ℕ → Bool
is_local x (Some to) = to == x
is_local x None = false

-- whether a statement assigns the local
abbrev pub assigns : ℕ → Code → Bool
assigns x c = is_local x (assigned c)

-- whether one statement of the code assigns the local, and no other
abbrev pub is_assigned_once : List Code → ℕ → Bool
is_assigned_once code x = count_by (assigns x) code == 1

-- a position at which calls pass something: the receiver, or a parameter
abbrev pub IsPosition : Var → Type 0
IsPosition This = Unit {0}
IsPosition (Param number) = Unit {0}
IsPosition (Local x) = ⊥
IsPosition Caught = ⊥
IsPosition Thrown = ⊥
IsPosition Made = ⊥
IsPosition (Nested level) = ⊥
IsPosition (Raised kind) = ⊥
IsPosition (Text number) = ⊥
IsPosition (Class number) = ⊥

-- the local to which the statement assigns what is at the position, where it is its identity. No other statement is one
abbrev pub identity_of : Code → Var → Option ℕ
identity_of (code.This to) This = Some to
identity_of (code.Param to number) (Param position) = if number == position then Some to else None
identity_of c v = None

-- the only element of a list
abbrev pub only : {X : Type 0} → List X → Option X
only [] = None
only (x ∷ []) = Some x
only (x ∷ y ∷ xs) = None

-- the formal of a position, by the local of its only identity
abbrev pub formal_by : List Code → Var → Option ℕ → Var
formal_by code v (Some x) = if is_assigned_once code x then Local x else v
formal_by code v None = v

-- the formal of a position: where the code has one identity of it and assigns its local nowhere else, this local, which then holds what was passed
-- from there on; else the receiver or the parameter itself
abbrev pub formal : List Code → Var → Var
formal code v = formal_by code v (only (filter_map (λ c. identity_of c v) code))

-- w is the formal of the position in the method with the number
pub record HasFormal (p : LinkedProgram) (number : ℕ) (position w : Var) : Type 0 where
  pub method : LinkedMethod
  pub there : slice_get p.methods number ≡ Some method
  pub is : w ≡ formal method.code position
