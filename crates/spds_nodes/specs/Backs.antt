-- The back edges that end in a node, by where they come from.
use Rattle.std.specs.Prelude.{◌≡◌, ℕ, ◌+◌, Bool, List, Option, Some, true, false, slice_get}
use Rattle.link_rules.specs.declared.code.Arg.{Arg}
use Rattle.link_rules.specs.declared.code.Arg.TheVariants as arg
use Rattle.link_rules.specs.declared.code.Code.{Code}
use Rattle.link_rules.specs.declared.code.Code.TheVariants as code
use Rattle.link_rules.specs.Linked.{LinkedProgram}
use Rattle.link_indexes.specs.Facts.{Calls}
use Rattle.link_rules.specs.Flow.{IsRaised, IsReturn}
use Rattle.link_indexes.specs.Tables.{IsInMethod}
use Rattle.link_rules.specs.Accessed.{codes_in}
use Rattle.link_sites.specs.declared.place.Place.{Place}
use Rattle.link_sites.specs.Places.{HasCode, before}
use Rattle.spds_rules.specs.declared.edge.Edge.{Edge}
use Rattle.spds_rules.specs.declared.edge.EdgeKind.TheVariants.{Return}
use Rattle.spds_rules.specs.declared.node.Node.{Node}
use Rattle.spds_rules.specs.declared.node.Var.{Var}
use Rattle.spds_rules.specs.declared.node.Var.TheVariants.{Local, This, Param}
use Rattle.spds_rules.specs.Edges.{Passes}
use Rattle.spds_rules.specs.Formals.{HasFormal, IsPosition}
use Rattle.spds_rules.specs.Nodes.{IsNode, at}
use Rattle.spds_nodes.specs.Added.{Over}
use Rattle.spds_nodes.specs.Into.{IsFrom}

-- the receiver, where the local is passed as it
abbrev pub IsReceiver : Option ℕ → ℕ → Var → Type 0
IsReceiver receiver x v = (receiver ≡ Some x) × (v ≡ This)

-- the parameter with the number, where the local is passed as it
abbrev pub IsParamAt : List Arg → ℕ → ℕ → Var → Type 0
IsParamAt args x number v = (slice_get args number ≡ Some (arg.Local x)) × (v ≡ Param number)

-- a parameter as which the local is passed
abbrev pub IsParam : List Arg → ℕ → Var → Type 0
IsParam args x v = (number : ℕ) × IsParamAt args x number v

-- the local isn't assigned by a call that takes its result into this one, if any: with an exception in flight no local is
abbrev pub IsKeptBy : Bool → Option ℕ → ℕ → Type 0
IsKeptBy true to x = Unit {0}
IsKeptBy false to x = to ≡ Some x → ⊥

-- the statement passes the local at the position, and doesn't assign it
abbrev pub PassesBack : Code → Bool → ℕ → Var → Type 0
PassesBack (code.Call to mode class key receiver args targets) raised x v = IsKeptBy raised to x × Passes receiver args (Local x) v
PassesBack _ raised x v = ⊥

-- its method is left at the statement, with an exception in flight or by a return
abbrev pub IsLeft : Bool → Code → Type 0
IsLeft true c = IsRaised c
IsLeft false c = IsReturn c

-- something comes back to s from the call at t, with an exception in flight or without one
abbrev pub IsCallAt : Bool → ℕ → ℕ → Type 0
IsCallAt true t s = t ≡ s
IsCallAt false t s = t + 1 ≡ s

-- where the statement of the method is left as the node is come to
abbrev pub left_place : ℕ → ℕ → Bool → Place
left_place method index raised = record { method = method; index = index; raised = raised }

-- from the variable, where the method is left at its statement r
abbrev pub IsBackFromAt : LinkedProgram → Node → Place → ℕ → Var → ℕ → Edge → Type 0
IsBackFromAt p n call target v r = IsFrom (left_place target r n.place.raised) (Return call) n
    (λ w. IsNode p (at (left_place target r n.place.raised) w) × (w ≡ v))

-- from the variable, wherever the method is left
abbrev pub IsBackFrom : LinkedProgram → Node → Place → ℕ → Var → Edge → Type 0
IsBackFrom p n call target v = Over (IsInMethod (IsLeft n.place.raised) (codes_in p) target) (IsBackFromAt p n call target v)

-- from the formal of the position in the method
abbrev pub IsBackAs : LinkedProgram → Node → Place → ℕ → Var → Edge → Type 0
IsBackAs p n call target position e = IsPosition position × Over (HasFormal p target position) (IsBackFrom p n call target) e

-- from the formals of the positions with the fact
abbrev pub IsBackOf : LinkedProgram → Node → Place → (Var → Type 0) → ℕ → Edge → Type 0
IsBackOf p n call IsPassed target = Over IsPassed (IsBackAs p n call target)

-- from the methods that the statement c at the place may run, where it passes the local x
abbrev pub IsBackBy : LinkedProgram → Node → ℕ → Place → Code → Edge → Type 0
IsBackBy p n x call c = Over (λ target. Calls target c) (IsBackOf p n call (PassesBack c n.place.raised x))

-- from the call at t, into the local x
abbrev pub IsBackLocalAt : LinkedProgram → Node → ℕ → ℕ → Edge → Type 0
IsBackLocalAt p n x t e = HasCode p n.place.method t (λ c. IsBackBy p n x (before n.place.method t) c e)

-- into the local x
abbrev pub IsBackLocal : LinkedProgram → Node → ℕ → Edge → Type 0
IsBackLocal p n x = Over (λ t. IsCallAt n.place.raised t n.place.index) (IsBackLocalAt p n x)

-- into the local that the node's variable is
abbrev pub IsBackInto : LinkedProgram → Node → Edge → Type 0
IsBackInto p n e = (x : ℕ) × (n.var ≡ Local x) × IsBackLocal p n x e
